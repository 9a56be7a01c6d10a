use Rattle.std.proofs.Common.{Some, refl, ◌∙◌}
use Rattle.keyed.proofs.Holdings.{standing_is, sets}
use Rattle.keyed.proofs.Puts.{replaced_is}
use Rattle.keyed.proofs.table.Table.write.Goals as goal

pub returns : goal.returns
returns g c =
    let key = g.R.Keyed.key in
    let up = c.args.self.now.rising in
    record {
      was = standing_is key _ _ _ _ up c.requires c.write.ensures.was;
      sets = sets key c.args.self.now _ _ (Some c.args.row) up refl (c.write.ensures.records ∙ replaced_is key _ _ _ up c.requires) c.write.ensures.serving;
    }
