-- The sheet and the holding that slices make, and the rules' figures of them.
use Rattle.std.specs.Prelude.{ℕ, List, [], map, ℤ, pos, ◌+ℤ◌, ◌*ℤ◌}
use Rattle.keyed.specs.Rows.{lookup}
use Rattle.margin.specs.declared.Currency.{Currency}
use Rattle.margin.specs.declared.Instrument.{Instrument}
use Rattle.margin.specs.declared.Order.{Order}
use Rattle.margin.specs.declared.Piece.{Piece}
use Rattle.margin.specs.Numbers.{down, total}
use Rattle.margin.specs.Cash.{cash_by}
use Rattle.margin.specs.Sheets.{Sheet}
use Rattle.margin.specs.Holdings.{Holding, held}
use Rattle.valuation.specs.declared.line.Line.{Line}
use Rattle.valuation.specs.Keys.{line_code}
use Rattle.valuation.specs.Values.{of}

abbrev pub sheet_of : (ℕ → List Piece) → List Currency → List Instrument → Sheet
sheet_of pieces cs is = record { currencies = cs; instruments = is; pieces = pieces }

-- the planned quantity in a code, 0 where there is no line
abbrev pub planned_in : List Line → ℕ → ℤ
planned_in ls code = of (λ l. l.planned) (lookup line_code ls code)

abbrev pub holding_of : (ℕ → ℤ) → List Line → List Order → Holding
holding_of cash ls os = record { cash = cash; planned = planned_in ls; lines = map line_code ls; orders = os }

-- z, and a value v of each line of the currency
abbrev pub equity_in : (Instrument → ℤ → ℤ) → List Instrument → List Line → ℕ → ℤ → ℤ
equity_in v is ls c z = z +ℤ total (λ i. v i (planned_in ls i.code)) (held (sheet_of (λ _. []) [] is) (holding_of (λ _. pos 0) ls []) c)

-- the same after its shock, in roubles
abbrev pub roubles_in : (Instrument → ℤ → ℤ) → (ℕ → ℤ → ℤ) → List Instrument → List Line → Currency → ℤ → ℤ
roubles_in v shock is ls c z = down (shock c.code (equity_in v is ls c.code z) *ℤ pos c.fx) 10000

-- the sum over the currencies, each with the cash at its place
abbrev pub figure_in : (Instrument → ℤ → ℤ) → (ℕ → ℤ → ℤ) → List Currency → List Instrument → List Line → List ℤ → ℤ
figure_in v shock cs is ls zs = total (λ c. roubles_in v shock is ls c (cash_by cs zs c.code)) cs
