use Rattle.std.proofs.Common.{◌≡◌, ◌+◌, ◌≤◌, ◌++◌, map, length, vec_items}
use Rattle.book.specs.Book.{fields, fields_of, seen}
use Rattle.book.proofs.reader.read_book.Given as goal

abbrev pub invariant-loop-item : goal.invariant-loop-item
invariant-loop-item l =
    (map seen (vec_items l.items) ++ fields_of l.rest l.place ≡ fields l.book)
    × (l.place + length l.rest ≤ 65537)

abbrev pub decreases-loop-item : goal.decreases-loop-item
decreases-loop-item l = length l.rest
