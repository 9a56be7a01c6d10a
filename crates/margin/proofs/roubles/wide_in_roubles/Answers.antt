use Rattle.std.proofs.Common.{pos, ◌*ℤ◌, arith, SFits, rules}
use mir.Syntax.{w128}
use Rattle.margin.proofs.Sizes.{roubles_size, size_fits}
use Rattle.margin.proofs.roubles.wide_in_roubles.Goals as goal

pub returns : goal.returns
returns c =
    let size = roubles_size c.args.amount c.args.fx (omega arith) in
    let f : SFits w128 (c.args.amount *ℤ pos c.args.fx) = size_fits w128 _ (omega (arith, size)) in
    search rules
