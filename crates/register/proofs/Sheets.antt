-- The register under a new sheet.
use Rattle.std.proofs.Common.{◌≡◌, ℕ, true, List, [], ◌∷◌, length, is_some, Some, None, Option, sym, refl, ap, ◌∙◌, arith}
use Rattle.std.proofs.lemmas.Bool.{eq-eqb, cond-true}
use Rattle.keyed.specs.declared.table.Table.{Table}
use Rattle.keyed.specs.Rows.{lookup}
use Rattle.keyed.specs.Tables.{entries, room, Fresh, holds}
use Rattle.margin.specs.declared.Currency.{Currency}
use Rattle.margin.specs.Cash.{cash_sheet}
use Rattle.register.specs.Keys.{portfolio_number}
use Rattle.register.specs.declared.records.Portfolio.{Portfolio}
use Rattle.register.specs.declared.state.Register.{Register}
use Rattle.register.specs.State.{currencies, portfolio, cash_in, Begins, Puts}
use Rattle.register.specs.Answers.{same_codes}
use Rattle.register.proofs.SameCodes.{same_cash}

none_found : (xs : List Portfolio) → ((q : ℕ) → lookup portfolio_number xs q ≡ None) → length xs ≡ 0
none_found [] h = refl
none_found (x ∷ xs) h =
    let e = sym (cond-true _ _ _ (eq-eqb x.number x.number refl)) ∙ h x.number in
    let z : ◌≡◌ {A = ℕ} 0 1 = cc in absurd (omega arith)

pub begins : (t : Register) (cs : List Currency) (n : ℕ) → currencies t ≡ cs → Fresh portfolio_number t.portfolios n → Begins (cash_sheet cs) n t
begins t cs n e f = record {
  sheet = ap cash_sheet e;
  «open» = λ j. ap is_some (f.none j);
  count = none_found (entries t.portfolios) f.none;
  places = f.room;
}

same_cash_in : (cs ds : List Currency) (o : Option Portfolio) (k : ℕ) → same_codes cs ds ≡ true → cash_in ds o k ≡ cash_in cs o k
same_cash_in cs ds None k e = refl
same_cash_in cs ds (Some x) k e = same_cash cs ds x.cash k e

pub put : (r t : Register) (cs : List Currency) → currencies t ≡ cs → t.portfolios ≡ r.portfolios → same_codes (currencies r) cs ≡ true → Puts r (cash_sheet cs) t
put r t cs e same codes = record {
  sheet = ap cash_sheet e;
  «open» = λ j. ap (λ (u : Table Portfolio _ _ _). is_some (holds portfolio_number u j)) same;
  cash = λ j k.
      ap (λ (l : List Currency). cash_in l (portfolio t j) k) e
      ∙ ap (λ (u : Table Portfolio _ _ _). cash_in cs (holds portfolio_number u j) k) same
      ∙ same_cash_in (currencies r) cs (portfolio r j) k codes;
  count = ap (λ (u : Table Portfolio _ _ _). length (entries u)) same;
  places = ap (λ (u : Table Portfolio _ _ _). room u) same;
}
