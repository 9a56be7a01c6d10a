use Rattle.std.proofs.Common.{◌≤◌, pos, ◌*ℤ◌, arith, SFits, rules}
use mir.Syntax.{w128}
use Rattle.margin.proofs.Sizes.{product_size, size_fits}
use Rattle.valuation.proofs.position.Position.net.Goals as goal

pub returns : goal.returns
returns c =
    let p : c.args.self.instrument.price ≤ 4294967296 = omega arith in
    let s = product_size c.counted.result (pos c.args.self.instrument.price) 200_000_000_000 4294967296 c.counted.ensures.small p in
    let f : SFits w128 (c.counted.result *ℤ pos c.args.self.instrument.price) = size_fits w128 (c.counted.result *ℤ pos c.args.self.instrument.price) (omega (arith, s)) in
    search rules
