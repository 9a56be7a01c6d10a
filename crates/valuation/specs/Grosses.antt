-- The rules' gross of one line, by what it depends on.
use Rattle.std.specs.Prelude.{ℕ, cond, List, [], ℤ, Some, None, Option, ◌==◌}
use Rattle.keyed.specs.Rows.{lookup}
use Rattle.margin.specs.declared.Instrument.{Instrument}
use Rattle.margin.specs.declared.Order.{Order}
use Rattle.margin.specs.Keys.{instrument_code}
use Rattle.margin.specs.Limits.{gross_of_line}
use Rattle.valuation.specs.declared.line.Line.{Line}
use Rattle.valuation.specs.Values.{any_sheet, one_line}

abbrev pub gross_of : List Order → Instrument → ℤ → ℕ
gross_of os i q = gross_of_line (any_sheet (λ _. [])) (one_line q os) i

-- n of what was found, and 0 where nothing was
abbrev pub count_of : {X : Type 0} → (X → ℕ) → Option X → ℕ
count_of f None = 0
count_of f (Some x) = f x

-- the gross of a line that is priced in the currency c
abbrev pub gross_in : List Order → List Instrument → ℕ → Line → ℕ
gross_in os is c l = count_of (λ i. cond (c == i.currency) (gross_of os i l.planned) 0) (lookup instrument_code is l.code)
