use Rattle.std.proofs.Common.{eqb, cond, get_or, arith}
use Rattle.std.proofs.lemmas.Bool.{cond-true, cond-false, eq-eqb, ne_eqb}
use Rattle.margin.specs.declared.Side.TheVariants.{Buy}
use Rattle.margin.specs.declared.Order.{Order}
use Rattle.margin.specs.Orders.{on}
use Rattle.valuation.proofs.Steps.{count_more}
use Rattle.valuation.proofs.orders.Orders.open_units.Goals.{then-code-order, else-code-order}
use Rattle.valuation.proofs.orders.Orders.open_units.Goals as goal

pub loop-order-preserved : goal.loop-order-preserved
loop-order-preserved c =
    let d : Order = record { number = 0; portfolio = 0; code = 0; side = Buy; left = 0; price = 0 } in
    let o = get_or c.args.self.now.orders.now c.loop-order.order-index d in
    let e = count_more (λ o. cond (on c.args.code o) o.left 0) c.args.self.now.orders.now c.loop-order.order-index d c.loop-order-test.true in
    elim c.if-code-order.branch [
      | then-code-order w ↦ (omega (arith, e, cond-true (eqb c.args.code o.code) o.left 0 (eq-eqb _ _ w.if-code-order.true), w.from-sum.ensures, w.sum-is), omega (arith, w.from-sum.ensures, w.sum-is))
      | else-code-order w ↦ (omega (arith, e, cond-false (eqb c.args.code o.code) o.left 0 (ne_eqb _ _ w.if-code-order.false), w.sum-is), omega (arith, w.sum-is))
    ]
