use Rattle.keyed.proofs.Shifts.{dropped}
use Rattle.keyed.proofs.slices.remove.Goals as goal

pub returns : goal.returns
returns g c =
    let h = dropped c.args.table.now c.args.used c.args.at c.requires.within c.requires.place _ c.rotate_left.ensures.after in
    record { records = h.0; free = h.1 }
