use Rattle.std.proofs.Common.{◌≡◌, ◌*◌, ◌^◌, ◌≤◌, take}
use Rattle.valuation.specs.Raw.{lost}
use Rattle.valuation.proofs.weighed.Weighed.losses.Given as goal

abbrev pub invariant-loop-order : goal.invariant-loop-order
invariant-loop-order l = (l.sum ≡ lost (take l.order-index l.orders.orders.now) l.self.stake.code l.self.stake.price l.self.piece.weight) × (l.sum ≤ l.order-index * 2 ^ 79)
