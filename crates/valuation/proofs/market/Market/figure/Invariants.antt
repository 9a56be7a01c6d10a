use Rattle.std.proofs.Common.{◌≡◌, ◌*◌, ◌^◌, ◌≤◌, length, take, nat_abs}
use Rattle.margin.proofs.Places.{by_place}
use Rattle.valuation.specs.Holdings.{roubles_in}
use Rattle.valuation.proofs.market.Market.figure.Given as goal

abbrev pub invariant-loop-currency : goal.invariant-loop-currency
invariant-loop-currency g l =
    let pieces = g.S.RateSource.pieces l.self.source.now in
    (l.sum ≡ by_place (roubles_in (g.M.Measure.line_value pieces l.portfolio.orders.orders.now) (g.M.Measure.shock pieces) l.self.listing.instruments.now l.portfolio.lines.lines.now) (take (length l.yielded) l.self.currencies.now) l.portfolio.cash.now)
    × (nat_abs l.sum ≤ length l.yielded * (2 * 10 ^ 34))
