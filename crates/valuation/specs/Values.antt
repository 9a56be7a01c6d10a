-- The rules' figures of one line and of one currency, by what they depend on.
use Rattle.std.specs.Prelude.{ℕ, cond, List, [], ℤ, pos, ◌*ℤ◌, Some, None, Option, ◌==◌}
use Rattle.keyed.specs.Rows.{lookup}
use Rattle.margin.specs.declared.Instrument.{Instrument}
use Rattle.margin.specs.declared.Order.{Order}
use Rattle.margin.specs.declared.Piece.{Piece}
use Rattle.margin.specs.Keys.{instrument_code}
use Rattle.margin.specs.Sheets.{Sheet}
use Rattle.margin.specs.Holdings.{Holding, counted, shocked}
use Rattle.margin.specs.Fillings.{low}
use Rattle.valuation.specs.declared.line.Line.{Line}

-- a sheet with this source of pieces
abbrev pub any_sheet : (ℕ → List Piece) → Sheet
any_sheet pieces = record { currencies = []; instruments = []; pieces = pieces }

-- so many planned, with these orders
abbrev pub one_line : ℤ → List Order → Holding
one_line q os = record { cash = λ _. pos 0; planned = λ _. q; lines = []; orders = os }

-- what so many units count for: at the sheet's price, or at the least that they can come to
abbrev pub net_value : (ℕ → List Piece) → List Order → Instrument → ℤ → ℤ
net_value pieces os i q = counted (any_sheet pieces) i q *ℤ pos i.price

abbrev pub low_value : (ℕ → List Piece) → List Order → Instrument → ℤ → ℤ
low_value pieces os i q = low (any_sheet pieces) (one_line q os) i

-- what an amount of a currency counts for: as it is, or shocked
abbrev pub unshocked : (ℕ → List Piece) → ℕ → ℤ → ℤ
unshocked pieces c e = e

abbrev pub shocked_value : (ℕ → List Piece) → ℕ → ℤ → ℤ
shocked_value pieces c e = shocked (any_sheet pieces) c e

-- f of what was found, and 0 where nothing was
abbrev pub of : {X : Type 0} → (X → ℤ) → Option X → ℤ
of f None = pos 0
of f (Some x) = f x

-- the instrument that was found, where it is priced in the currency c
abbrev pub in_currency : ℕ → Option Instrument → Option Instrument
in_currency c None = None
in_currency c (Some i) = cond (c == i.currency) (Some i) None

-- the value of a line that is priced in the currency c
abbrev pub value_in : (Instrument → ℤ → ℤ) → List Instrument → ℕ → Line → ℤ
value_in v is c l = of (λ i. cond (c == i.currency) (v i l.planned) (pos 0)) (lookup instrument_code is l.code)
