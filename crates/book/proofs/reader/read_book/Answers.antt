use Rattle.std.proofs.Common.{◌≡◌, is_ok, refl, ap, arith, take, length-take}
use Rattle.std.proofs.ResultArms.{chosen}
use Rattle.std.proofs.lemmas.List.{take_min}
use Rattle.book.specs.Book.{fields}
use Rattle.book.proofs.Books.{told, turn}
use Rattle.book.proofs.reader.read_book.Goals as goal

pub loop-item-init : goal.loop-item-init
unfolding fields
loop-item-init c =
    let read : take c.min.result c.args.book.now ≡ take 65536 c.args.book.now = rw c.min.ensures (take_min 65536 c.args.book.now) in
    rw (c.new-items.ensures.items, read) (refl, omega (arith, length-take 65536 c.args.book.now))

pub loop-item-preserved : goal.loop-item-preserved
loop-item-preserved c =
    let f = told c.loop-item.rest.now c.loop-item.place _ c.in-Some.ensures in
    let pushed = chosen _ _ _ _ c.push.ensures.items (ap is_ok c.in_ok-push.was) in (
      turn _ _ c.in-Some.item c.loop-item.rest.now c.in-Some.after.now c.loop-item.place _ (omega (arith, f.1)) f.0 pushed c.loop-item.invariant.0,
      omega (arith, f.1, c.loop-item.invariant.1),
    )
