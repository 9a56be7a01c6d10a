use Rattle.std.proofs.Common.{◌≡◌, ◌^◌, ◌≤◌, nat_abs, sym, ap, ap₂, ◌∙◌, subst, arith, SFits, rules}
use mir.Syntax.{w128}
use Rattle.std.proofs.lemmas.Int.{to_z-of_z}
use Rattle.valuation.specs.Raw.{lower, floored, Small, reach}
use Rattle.valuation.proofs.Lowests.{lower_small, floored_reach}
use Rattle.valuation.proofs.Values.{low_found}
use Rattle.valuation.proofs.position.Position.low.Goals as goal

pub returns : goal.returns
returns g c =
    let pieces = g.S.RateSource.pieces c.args.source.now in
    let i = c.args.self.instrument in
    let f : SFits w128 c.floored.result = search rules in
    let back = to_z-of_z w128 c.floored.result f in
    let first = c.joining-first.result in
    let found : c.lower_of.result ≡ lower c.joining-first.result c.least.result = c.lower_of.ensures in
    let reached = subst (Small (reach c.stake-stake.result.amount)) (sym found) (lower_small (reach c.stake-stake.result.amount) first c.least.result c.joining-first.ensures.small c.least.ensures.small) in
    let small = floored_reach c.stake-stake.result.amount c.lower_of.result reached in
    record {
      small = subst (λ z. nat_abs z ≤ 10 ^ 24) (sym (back ∙ c.floored.ensures)) (omega arith);
      is = back
          ∙ c.floored.ensures
          ∙ ap floored (found ∙ ap₂ lower c.joining-first.ensures.is c.least.ensures.is)
          ∙ low_found pieces i c.part-part.result.orders.now c.args.orders.now.orders.now c.args.self.line.planned c.stake-stake.result.code c.stake-stake.result.price c.stake-stake.result.amount c.stake-stake.ensures.code c.stake-stake.ensures.price c.stake-stake.ensures.amount c.part-part.ensures;
    }
