-- What a table of rates gives once a rate is in.
use Rattle.std.proofs.Common.{ℕ, List, length, Ok, Option, ap, arith}
use Rattle.std.specs.Option.{option_to_list}
use Rattle.std.proofs.lemmas.Grind.{common_steps}
use Rattle.keyed.specs.declared.table.Table.{Table}
use Rattle.keyed.specs.Tables.{entries, holds, Sound, Inserts}
use Rattle.keyed.proofs.Changes.{sized}
use Rattle.margin.specs.declared.Piece.{Piece}
use Rattle.sources.specs.Pieces.{given}
use Rattle.sources.specs.Entering.{Said, Checked, Enters}

pub entered : {R : Type 0} (key : R → ℕ) (pieces : R → List Piece) {K : Type 0} {keyed : _} {ranks : _} (s t : Table R K keyed ranks) (x : R) (r : Said) → Checked key pieces r (Ok x) → Sound key s → Inserts key s t x (Ok tt) →
    Enters (λ q. given pieces (holds key s q)) (length (entries s)) r.code r.pieces (λ q. given pieces (holds key t q)) (length (entries t))
entered {R} key pieces s t x r (inside, code, is) up (free, less, sets) =
    record {
      pieces = λ q. grind (arith, common_steps, sets.here, sets.others q, code, is);
      one_more = omega (arith, ap (λ (l : List R). length l) sets.rows, (sized key).length_with (entries s) x up, ap (λ (o : Option R). length (option_to_list o)) free);
    }
