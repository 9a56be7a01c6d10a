use Rattle.std.proofs.Common.{◌≡◌, ◌+◌, List, take, ℤ, nat_abs, ap, ◌∙◌, arith, w64, to_z, of_z, rules}
use Rattle.std.proofs.lemmas.List.{take_all}
use Rattle.std.proofs.lemmas.Int.{to_z-of_z}
use Rattle.margin.specs.Numbers.{count}
use Rattle.valuation.specs.declared.line.Line.{Line}
use Rattle.valuation.specs.Grosses.{gross_in}
use Rattle.valuation.proofs.Steps.{count_more}
use Rattle.valuation.proofs.Grosses.{gross_is}
use Rattle.valuation.proofs.listing.Listing.gross.Goals as goal

pub loop-line-preserved : goal.loop-line-preserved
loop-line-preserved c =
    let value = gross_in c.args.orders.now.orders.now c.args.self.now.instruments.now c.args.currency in
    let more = count_more value c.args.lines.now.lines.now c.loop-line.line-index c.line-item.result c.loop-line-test.true in
    let here = ap value c.line-item.is in
    (omega (arith, c.loop-line.invariant.0, more, here, c.gross_in-sum.ensures.is), omega (arith, c.gross_in-sum.ensures.small))

pub returns-clause-is : goal.returns-clause-is
returns-clause-is c =
    let value = gross_in c.args.orders.now.orders.now c.args.self.now.instruments.now c.args.currency in
    let all : take c.loop-line.line-index c.args.lines.now.lines.now ≡ c.args.lines.now.lines.now = search (rules, take_all) in
    c.loop-line.invariant.0
    ∙ ap (λ (ls : List Line). nat_abs (to_z w64 (of_z w64 c.args.cash)) + count value ls) all
    ∙ ap (λ (z : ℤ). nat_abs z + count value c.args.lines.now.lines.now) (to_z-of_z w64 c.args.cash c.ranges.cash)
    ∙ gross_is c.args.self.now.instruments.now c.args.lines.now.lines.now c.args.orders.now.orders.now c.args.currency c.args.cash c.args.lines.now.apart c.args.self.now.rising
