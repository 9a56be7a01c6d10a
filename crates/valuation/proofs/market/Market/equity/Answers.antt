use Rattle.std.proofs.Common.{◌≡◌, take, ◌+ℤ◌, ap, ◌∙◌, arith, w64, to_z, of_z, rules}
use borrow.Author.Differences.{ints}
use Rattle.std.proofs.lemmas.List.{take_all}
use Rattle.std.proofs.lemmas.Int.{to_z-of_z}
use Rattle.margin.specs.Numbers.{total}
use Rattle.valuation.specs.Values.{value_in}
use Rattle.valuation.proofs.Steps.{total_more}
use Rattle.valuation.proofs.Equities.{equity_is}
use Rattle.valuation.proofs.market.Market.equity.Goals as goal

pub loop-line-preserved : goal.loop-line-preserved
loop-line-preserved g c =
    let v = g.M.Measure.line_value (g.S.RateSource.pieces c.args.self.now.source.now) c.args.portfolio.now.orders.orders.now in
    let value = value_in v c.args.self.now.listing.instruments.now c.args.currency in
    let more = total_more value c.args.portfolio.now.lines.lines.now c.loop-line.line-index c.line-item.result c.loop-line-test.true in
    let here = ap value c.line-item.is in
    (omega (arith, ints, c.loop-line.invariant.0, more, here), omega (arith, ints))

pub returns-clause-is : goal.returns-clause-is
returns-clause-is g c =
    let pieces = g.S.RateSource.pieces c.args.self.now.source.now in
    let v = g.M.Measure.line_value pieces c.args.portfolio.now.orders.orders.now in
    let value = value_in v c.args.self.now.listing.instruments.now c.args.currency in
    let is_all : take c.loop-line.line-index c.args.portfolio.now.lines.lines.now ≡ c.args.portfolio.now.lines.lines.now = search (rules, take_all) in
    c.loop-line.invariant.0
    ∙ ap (λ ls. to_z w64 (of_z w64 c.args.cash) +ℤ total value ls) is_all
    ∙ ap (λ z. z +ℤ total value c.args.portfolio.now.lines.lines.now) (to_z-of_z w64 c.args.cash c.ranges.cash)
    ∙ equity_is v c.args.self.now.listing.instruments.now c.args.portfolio.now.lines.lines.now c.args.currency c.args.cash c.args.portfolio.now.lines.apart c.args.self.now.listing.rising
