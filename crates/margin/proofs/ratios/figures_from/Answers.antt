use Rattle.std.proofs.Common.{◌-ℤ◌, SFits, rules}
use mir.Syntax.{w128}
use Rattle.std.proofs.lemmas.Int.{to_z-of_z}
use Rattle.margin.proofs.ratios.figures_from.Goals as goal

pub returns : goal.returns
returns c =
    let fi : SFits w128 (c.args.value -ℤ c.args.first) = search rules in
    let fm : SFits w128 c.half_up-minimum.result = search rules in
    let fd : SFits w128 (c.args.value -ℤ c.half_up-minimum.result) = search rules in
    search (rules, to_z-of_z)
