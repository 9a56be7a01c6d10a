use Rattle.std.proofs.Common.{List, map, ap, ◌∙◌}
use Rattle.book.specs.declared.reader.Item.{Item}
use Rattle.book.specs.Book.{seen}
use Rattle.desk.proofs.Runs.{whole}
use Rattle.desk.proofs.service.runs.run.Goals as goal

pub returns : goal.returns
returns c =
    whole _ _ _ c.deref.result.now _ c.begin-desk.ensures (ap (λ (is : List Item). map seen is) c.deref.ensures.value ∙ c.in_ok-items.ensures) c.serve_all-outcomes.ensures
