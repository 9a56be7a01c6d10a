-- A portfolio that holds cash alone, under a sheet with no instrument and no rates.
use Rattle.std.specs.Prelude.{ℕ, cond, List, [], ◌∷◌, ℤ, pos, ◌-ℤ◌, ◌==◌}
use Rattle.margin.specs.declared.Currency.{Currency}
use Rattle.margin.specs.declared.Figures.{Figures}
use Rattle.margin.specs.Numbers.{half_up}
use Rattle.margin.specs.Sheets.{Sheet}
use Rattle.margin.specs.Holdings.{Holding}

-- no rate has been entered: the source knows no code
abbrev pub cash_sheet : List Currency → Sheet
cash_sheet cs = record { currencies = cs; instruments = []; pieces = λ _. [] }

-- cash by the place of its currency in the sheet, read by the currency's code
abbrev pub cash_by : List Currency → List ℤ → ℕ → ℤ
cash_by [] zs k = pos 0
cash_by (c ∷ cs) [] k = pos 0
cash_by (c ∷ cs) (z ∷ zs) k = cond (k == c.code) z (cash_by cs zs k)

abbrev pub cash_holding : (ℕ → ℤ) → Holding
cash_holding cash = record { cash = cash; planned = λ _. pos 0; lines = []; orders = [] }

-- the six figures from the value, the first ratio and the worst case
abbrev pub figures_from : ℤ → ℤ → ℤ → Figures
figures_from v n w = record { value = v; initial = v -ℤ n; minimum = half_up (v -ℤ n); first = n; second = v -ℤ half_up (v -ℤ n); worst = w }
