-- The figures of cash alone are sums over the places of the currencies.
use Rattle.std.proofs.Common.{◌≡◌, ◌≤◌, cond, eqb, List, length, ℤ, pos, ◌*ℤ◌, sym, refl, ap, ◌∙◌}
use Rattle.margin.specs.declared.Currency.{Currency}
use Rattle.margin.specs.Numbers.{down}
use Rattle.margin.specs.Sheets.{Apart}
use Rattle.margin.specs.Holdings.{value_of, first_ratio}
use Rattle.margin.specs.Figures.{figures_of}
use Rattle.margin.specs.Cash.{cash_sheet, cash_by, cash_holding, figures_from}
use Rattle.margin.proofs.Integers.{add_nought}
use Rattle.margin.proofs.Sums.{sum_same}
use Rattle.margin.proofs.Places.{by_place, by_code}

abbrev pub valued : Currency → ℤ → ℤ
valued c z = down (z *ℤ pos c.fx) 10000

abbrev pub at_risk : Currency → ℤ → ℤ
at_risk c z = down (cond (eqb c.code 643) z (pos 0) *ℤ pos c.fx) 10000

module _ (cs : List Currency) (zs : List ℤ) (apart : Apart (λ c. c.code) cs) (room : length cs ≤ length zs) where
  value_is : by_place valued cs zs ≡ value_of (cash_sheet cs) (cash_holding (cash_by cs zs))
  value_is = by_code valued cs zs apart room ∙ sum_same _ _ (λ c. ap (valued c) (sym (add_nought (cash_by cs zs c.code) (pos 0) refl))) cs

  first_is : by_place at_risk cs zs ≡ first_ratio (cash_sheet cs) (cash_holding (cash_by cs zs))
  first_is = by_code at_risk cs zs apart room ∙ sum_same _ _ (λ c. ap (at_risk c) (sym (add_nought (cash_by cs zs c.code) (pos 0) refl))) cs

  pub cash_figures_are : (v n : ℤ) → v ≡ by_place valued cs zs → n ≡ by_place at_risk cs zs → figures_from v n n ≡ figures_of (cash_sheet cs) (cash_holding (cash_by cs zs))
  cash_figures_are v n e f =
      ap (λ (x : ℤ). figures_from x n n) (e ∙ value_is) ∙ ap (λ (x : ℤ). figures_from (value_of (cash_sheet cs) (cash_holding (cash_by cs zs))) x x) (f ∙ first_is)
