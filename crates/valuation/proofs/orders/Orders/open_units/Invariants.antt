use Rattle.std.proofs.Common.{◌≡◌, ◌*◌, ◌^◌, ◌≤◌, cond, take}
use Rattle.margin.specs.Numbers.{count}
use Rattle.margin.specs.Orders.{on}
use Rattle.valuation.proofs.orders.Orders.open_units.Given as goal

abbrev pub invariant-loop-order : goal.invariant-loop-order
invariant-loop-order l = (l.sum ≡ count (λ o. cond (on l.code o) o.left 0) (take l.order-index l.self.orders.now)) × (l.sum ≤ l.order-index * 2 ^ 32)
