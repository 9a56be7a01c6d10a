use Rattle.std.proofs.Common.{eqb, cond, get_or, arith}
use Rattle.std.proofs.lemmas.Bool.{cond-true, cond-false, eq-eqb, ne_eqb}
use Rattle.margin.specs.declared.Side.TheVariants.{Buy}
use Rattle.margin.specs.declared.Order.{Order}
use Rattle.margin.specs.Orders.{on}
use Rattle.valuation.specs.Raw.{loss}
use Rattle.valuation.proofs.Steps.{count_more}
use Rattle.valuation.proofs.weighed.Weighed.losses.Goals.{then-self-order, else-self-order}
use Rattle.valuation.proofs.weighed.Weighed.losses.Goals as goal

pub loop-order-preserved : goal.loop-order-preserved
loop-order-preserved c =
    let d : Order = record { number = 0; portfolio = 0; code = 0; side = Buy; left = 0; price = 0 } in
    let o = get_or c.args.orders.now.orders.now c.loop-order.order-index d in
    let l = loss c.args.self.stake.price c.args.self.piece.weight o in
    let e = count_more (λ o. cond (on c.args.self.stake.code o) (loss c.args.self.stake.price c.args.self.piece.weight o) 0) c.args.orders.now.orders.now c.loop-order.order-index d c.loop-order-test.true in
    elim c.if-self-order.branch [
      | then-self-order w ↦ (omega (arith, e, cond-true (eqb c.args.self.stake.code o.code) l 0 (eq-eqb _ _ w.if-self-order.true), w.loss-lost.ensures.is, w.sum-is), omega (arith, w.loss-lost.ensures.small, w.sum-is))
      | else-self-order w ↦ (omega (arith, e, cond-false (eqb c.args.self.stake.code o.code) l 0 (ne_eqb _ _ w.if-self-order.false), w.sum-is), omega (arith, w.sum-is))
    ]
