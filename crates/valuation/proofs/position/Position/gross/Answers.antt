use Rattle.std.proofs.Common.{◌≡◌, ◌+◌, cond, nat_abs, ◌∙◌, arith, w64, SFits, rules}
use Rattle.margin.specs.Numbers.{count}
use Rattle.margin.specs.Orders.{on}
use Rattle.margin.proofs.Sizes.{size_fits}
use Rattle.std.proofs.lemmas.Int.{to_z-of_z}
use Rattle.valuation.proofs.Grosses.{line_gross}
use Rattle.valuation.proofs.position.Position.gross.Goals as goal

pub returns-clause-is : goal.returns-clause-is
returns-clause-is c =
    let i = c.args.self.instrument in
    let part = c.part-part.result.orders.now in
    let q : SFits w64 c.args.self.line.planned = size_fits w64 c.args.self.line.planned (omega arith) in
    let n : c.from.result ≡ nat_abs c.args.self.line.planned = search (rules, to_z-of_z) in
    let units : c.from.result + c.open_units.result ≡ nat_abs c.args.self.line.planned + count (λ o. cond (on c.args.self.instrument.code o) o.left 0) c.part-part.result.orders.now = omega (arith, c.open_units.ensures.is) in
    line_gross i c.args.self.line.planned part c.args.orders.now.orders.now _ _ c.part-part.ensures units (c.from-2.ensures ∙ c.highest.ensures)
