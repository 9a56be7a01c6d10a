use Rattle.std.proofs.Common.{◌≡◌, ◌+◌, ◌*◌, ◌^◌, ◌≤◌, take, nat_abs}
use Rattle.margin.specs.Numbers.{count}
use Rattle.valuation.specs.Grosses.{gross_in}
use Rattle.valuation.proofs.listing.Listing.gross.Given as goal

abbrev pub invariant-loop-line : goal.invariant-loop-line
invariant-loop-line l =
    (l.sum ≡ nat_abs l.cash + count (gross_in l.orders.orders.now l.self.instruments.now l.currency) (take l.line-index l.lines.lines.now))
    × (l.sum ≤ 2 ^ 63 + l.line-index * 2 ^ 78)
