use Rattle.std.proofs.Common.{◌≤◌, pos, ◌*ℤ◌, arith, SFits, rules}
use mir.Syntax.{w128}
use Rattle.margin.proofs.Sizes.{product_size, size_fits}
use Rattle.valuation.proofs.position.Position.stake.Goals as goal

pub invariant_of-result : goal.invariant_of-result
invariant_of-result c =
    let p : c.args.self.instrument.price ≤ 4294967296 = omega arith in
    let s = product_size (pos c.args.self.instrument.price) c.args.self.line.planned 4294967296 200_000_000_000 p c.args.self.line.small in
    let f : SFits w128 (pos c.args.self.instrument.price *ℤ c.args.self.line.planned) = size_fits w128 (pos c.args.self.instrument.price *ℤ c.args.self.line.planned) (omega (arith, s)) in
    search rules

pub returns : goal.returns
returns c =
    let p : c.args.self.instrument.price ≤ 4294967296 = omega arith in
    let s = product_size (pos c.args.self.instrument.price) c.args.self.line.planned 4294967296 200_000_000_000 p c.args.self.line.small in
    let f : SFits w128 (pos c.args.self.instrument.price *ℤ c.args.self.line.planned) = size_fits w128 (pos c.args.self.instrument.price *ℤ c.args.self.line.planned) (omega (arith, s)) in
    search rules
