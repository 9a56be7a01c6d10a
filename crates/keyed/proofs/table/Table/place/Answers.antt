use Rattle.std.proofs.Common.{List, subst}
use Rattle.keyed.specs.Rows.{Sought}
use Rattle.keyed.proofs.Holdings.{located}
use Rattle.keyed.proofs.table.Table.place.Goals as goal

pub returns : goal.returns
returns g c =
    let key = g.R.Keyed.key in
    let rows = c.rows.ensures in
    let q = g.R.Key.Key.rank c.args.key in
    located key c.args.self.now q _ c.args.self.now.rising (subst (λ (xs : List g.row.R.Denot). Sought key xs q c.find.result) rows.rows (c.find.ensures.sought rows.rise))
