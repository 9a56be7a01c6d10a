use Rattle.std.proofs.Common.{map, take, vec_items}
use Rattle.book.specs.Book.{seen}
use Rattle.desk.proofs.Runs.{SoFar}
use Rattle.desk.proofs.service.Desk.serve_all.Given as goal

abbrev pub invariant-loop-item : goal.invariant-loop-item
invariant-loop-item l = SoFar l.initial.self (map seen (take l.item-index l.items)) (vec_items l.outcomes) l.self
