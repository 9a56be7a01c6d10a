use Rattle.std.proofs.Common.{◌∙◌, SFits, rules}
use mir.Syntax.{w128}
use Rattle.std.proofs.lemmas.Int.{to_z-of_z}
use Rattle.valuation.proofs.Equities.{first_is}
use Rattle.valuation.proofs.market.Market.first_ratio.Goals as goal

pub returns-clause-is : goal.returns-clause-is
returns-clause-is g c =
    let f : SFits w128 c.figure.result = search rules in
    to_z-of_z w128 c.figure.result f
    ∙ c.figure.ensures.is
    ∙ first_is (g.S.RateSource.pieces c.args.self.now.source.now) c.args.self.now.currencies.now c.args.self.now.listing.instruments.now c.args.portfolio.now.lines.lines.now c.args.portfolio.now.orders.orders.now c.args.portfolio.now.cash.now
