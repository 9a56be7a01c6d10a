use Rattle.std.proofs.Common.{◌≡◌, ◌+◌, ◌*◌, ◌^◌, ◌≤◌, take, ◌+ℤ◌, nat_abs}
use Rattle.margin.specs.Numbers.{total}
use Rattle.valuation.specs.Values.{value_in}
use Rattle.valuation.proofs.market.Market.equity.Given as goal

abbrev pub invariant-loop-line : goal.invariant-loop-line
invariant-loop-line g l =
    (l.sum ≡ l.cash +ℤ total (value_in (g.M.Measure.line_value (g.S.RateSource.pieces l.self.source.now) l.portfolio.orders.orders.now) l.self.listing.instruments.now l.currency) (take l.line-index l.portfolio.lines.lines.now))
    × (nat_abs l.sum ≤ 2 ^ 63 + l.line-index * 10 ^ 24)
