use Rattle.std.proofs.Common.{◌∙◌, SFits, rules}
use mir.Syntax.{w128}
use Rattle.std.proofs.lemmas.Int.{to_z-of_z}
use Rattle.valuation.proofs.Values.{worth_low}
use Rattle.valuation.proofs.risk.worth.Goals as goal

pub returns-clause-is : goal.returns-clause-is
returns-clause-is g c =
    let f : SFits w128 c.low.result = search rules in
    to_z-of_z w128 c.low.result f ∙ c.low.ensures.is ∙ worth_low (g.S.RateSource.pieces c.args.source.now) c.args.instrument c.args.line.planned
