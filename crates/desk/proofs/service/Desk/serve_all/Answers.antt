use Rattle.std.proofs.Common.{List, [], map, vec_items, sym, refl, subst, arith}
use Rattle.std.proofs.lemmas.List.{take_all}
use Rattle.book.specs.declared.reader.Item.{Item}
use Rattle.book.specs.Book.{seen}
use Rattle.desk.specs.declared.replies.Outcome.{Outcome}
use Rattle.desk.proofs.Runs.{SoFar, turn}
use Rattle.desk.proofs.service.Desk.serve_all.Goals as goal

pub loop-item-init : goal.loop-item-init
loop-item-init c = subst (λ (os : List Outcome). SoFar c.args.self.now [] os c.args.self.now) (sym c.new-outcomes.ensures.items) (λ u. (u, (refl, refl)))

pub loop-item-preserved : goal.loop-item-preserved
loop-item-preserved c =
    turn c.args.self.now c.loop-item.self c.serve.new.self c.args.items.now c.loop-item.item-index _ _ _ c.in_ok-serve.field-0 (omega arith) c.in_ok-push.ensures.items c.loop-item.invariant c.in_ok-serve.ensures

pub returns : goal.returns
returns c = subst (λ (is : List Item). SoFar c.args.self.now (map seen is) (vec_items c.loop-item.outcomes) c.loop-item.self) (take_all c.loop-item.item-index c.args.items.now (omega arith)) c.loop-item.invariant
