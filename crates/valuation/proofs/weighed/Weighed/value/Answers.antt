use Rattle.std.proofs.Common.{arith, rules}
use Rattle.valuation.proofs.Raws.{fitting}
use Rattle.valuation.proofs.weighed.Weighed.value.Goals as goal

pub overflow_add-result : goal.overflow_add-result
overflow_add-result c =
    let w = c.args.self in
    let f = fitting c.args.self.piece.weight c.args.self.piece.allowance c.args.self.stake.price c.losses-lost.result c.args.self.stake.amount w.weight w.allowance (omega arith) c.losses-lost.ensures.small w.stake.small in
    search rules

pub overflow_sub-result : goal.overflow_sub-result
overflow_sub-result c =
    let w = c.args.self in
    let f = fitting c.args.self.piece.weight c.args.self.piece.allowance c.args.self.stake.price c.losses-lost.result c.args.self.stake.amount w.weight w.allowance (omega arith) c.losses-lost.ensures.small w.stake.small in
    search rules

pub returns : goal.returns
returns c =
    let w = c.args.self in
    let f = fitting c.args.self.piece.weight c.args.self.piece.allowance c.args.self.stake.price c.losses-lost.result c.args.self.stake.amount w.weight w.allowance (omega arith) c.losses-lost.ensures.small w.stake.small in
    search rules
