use Rattle.std.proofs.Common.{◌≡◌, ◌+◌, ◌-◌, sym, ap, ◌∙◌, subst, drop, arith}
use Rattle.valuation.specs.Raw.{raw_of, lower, lowest, Small, reach}
use Rattle.valuation.proofs.Lowests.{lower_next, lower_done, lower_small, within_limit}
use Rattle.valuation.proofs.pieces.least.Goals as goal

pub loop-k-preserved : goal.loop-k-preserved
loop-k-preserved g c =
    let ps = g.S.RateSource.pieces c.args.source.now c.args.stake.code in
    let f = raw_of c.args.orders.now.orders.now c.args.stake in
    let more = lower_next f ps c.loop-k.k c.loop-k.best c.value_at.result c.lower_of-best.result (lowest f ps) (omega arith) c.value_at.ensures.is c.lower_of-best.ensures c.loop-k.invariant.0 in
    let e : c.loop-k.k + 1 - 1 ≡ c.loop-k.k = omega arith in (
      ap (λ n. lower c.lower_of-best.result (lowest f (drop n ps))) e ∙ more,
      subst (Small (reach c.args.stake.amount)) (sym c.lower_of-best.ensures) (lower_small (reach c.args.stake.amount) c.loop-k.best c.value_at.result c.loop-k.invariant.1 c.value_at.ensures.small),
    )

pub returns-2-clause-is : goal.returns-2-clause-is
returns-2-clause-is g c =
    let ps = g.S.RateSource.pieces c.args.source.now c.args.stake.code in
    let f = raw_of c.args.orders.now.orders.now c.args.stake in
    let more = lower_next f ps c.loop-k.k c.loop-k.best c.value_at.result c.lower_of-best.result (lowest f ps) (omega arith) c.value_at.ensures.is c.lower_of-best.ensures c.loop-k.invariant.0 in
    let few = within_limit ps g.S.RateSource.MOST (λ known. (g.met.S.RateSource.lawful c.args.source.now c.args.stake.code known).at_most) c.loop-k.k (omega arith) in
    sym (lower_done f ps c.loop-k.k c.lower_of-best.result few) ∙ more
