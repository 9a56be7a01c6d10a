use Rattle.std.proofs.Common.{◌≡◌, ◌*◌, ◌^◌, ◌≤◌, nat_abs, subst, eqb, pos, ◌*ℤ◌, sym, ap, ◌∙◌, arith, SFits, rules}
use mir.Syntax.{w128}
use borrow.Author.Differences.{ints}
use Rattle.std.proofs.lemmas.Int.{to_z-of_z}
use Rattle.std.proofs.lemmas.Bool.{ne_eqb, cond-false}
use Rattle.valuation.specs.Raw.{floored, Small, reach}
use Rattle.valuation.proofs.Lowests.{floored_reach}
use Rattle.valuation.proofs.Values.{worth_found}
use Rattle.valuation.proofs.risk.shocked.Goals as goal

pub returns : goal.returns
returns g c =
    let pieces = g.S.RateSource.pieces c.args.source.now in
    let f : SFits w128 c.floored.result = search rules in
    let back = to_z-of_z w128 c.floored.result f in
    let same = to_z-of_z w128 c.args.amount c.ranges.amount in
    let one : c.args.amount ≡ pos 1 *ℤ c.args.amount = omega (arith, ints) in
    let small = floored_reach c.args.amount c.least.result (subst (λ z. Small (reach z) c.least.result) same c.least.ensures.small) in
    record {
      small = subst (λ z. nat_abs z ≤ 3 * 10 ^ 28) (sym (back ∙ c.floored.ensures)) (omega arith);
      is = back
          ∙ c.floored.ensures
          ∙ ap floored c.least.ensures.is
          ∙ worth_found 1 c.args.currency c.args.amount _ (pieces c.args.currency) (same ∙ one)
          ∙ sym (cond-false (eqb c.args.currency 643) _ _ (ne_eqb _ _ c.if-currency-eq-ROUBLE.false));
    }
