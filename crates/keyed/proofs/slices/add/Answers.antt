use Rattle.keyed.proofs.Shifts.{added}
use Rattle.keyed.proofs.slices.add.Goals as goal

pub returns : goal.returns
returns g c =
    let h = added c.args.table.now c.args.used c.args.at c.args.row c.requires.within c.requires.place _ c.rotate_right.ensures.after in
    record { records = h.0; free = h.1 }
