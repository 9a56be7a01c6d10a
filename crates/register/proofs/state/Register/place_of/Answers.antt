use Rattle.std.proofs.Common.{◌≡◌, ℕ, true, not, eqb, List, Ok, Err, is_some, Option, Result, MatchOption, sym, ap, subst}
use Rattle.std.specs.Result.{result_ok}
use Rattle.keyed.specs.Rows.{Rising, Stands, Sought}
use Rattle.margin.specs.declared.Currency.{Currency}
use Rattle.margin.specs.Keys.{currency_code}
use Rattle.margin.specs.Numbers.{the_first}
use Rattle.register.specs.State.{currencies}
use Rattle.register.specs.Answers.{missing}
use Rattle.register.proofs.Currencies.{absent}
use Rattle.register.proofs.state.Register.place_of.Goals as goal

placed : (cs : List Currency) (k : ℕ) (a : Result ℕ ℕ) → Sought currency_code cs k a → MatchOption (result_ok a) (not (is_some (the_first (λ x. eqb k x.code) cs)) ≡ true) (λ i. Stands currency_code cs k i)
placed cs k (Ok i) s = s
placed cs k (Err i) g = ap not (absent cs k i g)

pub returns : goal.returns
returns c =
    let r = c.args.self.now in
    let k = c.args.code in
    let e = c.deref.ensures.value in
    let sought = subst (λ (cs : List Currency). Rising currency_code cs → Sought currency_code cs k c.find.result) e c.find.ensures.sought in
    subst (λ (o : Option ℕ). MatchOption o (missing r k ≡ true) (λ i. Stands currency_code (currencies r) k i)) (sym c.ok.ensures.value) (placed (currencies r) k c.find.result (sought r.currencies_rise))
