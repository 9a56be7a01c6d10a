-- The sums over lines and currencies are the rules' figures.
use Rattle.std.proofs.Common.{◌≡◌, ℕ, List, [], ℤ, pos, ◌+ℤ◌, ◌*ℤ◌, ap}
use Rattle.keyed.specs.Rows.{Rising}
use Rattle.margin.specs.declared.Currency.{Currency}
use Rattle.margin.specs.declared.Instrument.{Instrument}
use Rattle.margin.specs.declared.Order.{Order}
use Rattle.margin.specs.declared.Piece.{Piece}
use Rattle.margin.specs.Keys.{instrument_code}
use Rattle.margin.specs.Numbers.{down, total}
use Rattle.margin.specs.Cash.{cash_by}
use Rattle.margin.specs.Sheets.{Apart}
use Rattle.margin.specs.Holdings.{worth, pieces_of, held, first_ratio}
use Rattle.margin.proofs.Sums.{sum_same}
use Rattle.valuation.specs.declared.line.Line.{Line}
use Rattle.valuation.specs.Keys.{line_code}
use Rattle.valuation.specs.Values.{any_sheet, low_value, shocked_value, value_in}
use Rattle.valuation.specs.Holdings.{sheet_of, holding_of, planned_in, equity_in, figure_in}
use Rattle.valuation.proofs.Joins.{lines_join, rising_apart}
use Rattle.valuation.proofs.Values.{worth_low}

pub equity_is : (v : Instrument → ℤ → ℤ) (is : List Instrument) (ls : List Line) (c : ℕ) (z : ℤ) → Apart line_code ls → Rising instrument_code is →
    z +ℤ total (value_in v is c) ls ≡ equity_in v is ls c z
equity_is v is ls c z a b = ap (λ x. z +ℤ x) (lines_join line_code (λ l. l.planned) instrument_code (λ i. i.currency) v c ls is a (rising_apart instrument_code is b))

-- with no order each line comes to its worth
pub first_is : (pieces : ℕ → List Piece) (cs : List Currency) (is : List Instrument) (ls : List Line) (os : List Order) (zs : List ℤ) →
    figure_in (low_value pieces []) (shocked_value pieces) cs is ls zs ≡ first_ratio (sheet_of pieces cs is) (holding_of (cash_by cs zs) ls os)
first_is pieces cs is ls os zs =
    let low = λ (i : Instrument). low_value pieces [] i (planned_in ls i.code) in
    let first = λ (i : Instrument). worth (pieces_of (any_sheet pieces) i) i.price (planned_in ls i.code) in
    let lines = λ (c : Currency). sum_same low first (λ i. worth_low pieces i (planned_in ls i.code)) (held (sheet_of (λ _. []) [] is) (holding_of (λ _. pos 0) ls []) c.code) in
    sum_same _ _ (λ c. ap (λ t. down (shocked_value pieces c.code (cash_by cs zs c.code +ℤ t) *ℤ pos c.fx) 10000) (lines c)) cs
