use Rattle.std.proofs.Common.{vec_items, arith}
use lib.Seq.{take-set-lt}
use Rattle.std.proofs.lemmas.List.{length-take-le}
use Rattle.keyed.proofs.places.Places.write.Goals as goal

pub returns-clause-records : goal.returns-clause-records
returns-clause-records g c =
    let p = c.args.self.now in
    let xs = vec_items p.places in
    rw c.replace.ensures.after (take-set-lt p.used xs c.args.at c.args.row (omega (arith, length-take-le p.used xs (omega (arith, p.within, p.fits, p.places.ok.0)))))
