use Rattle.std.proofs.Common.{Some, refl, ◌∙◌}
use Rattle.keyed.proofs.Holdings.{rise_put, sets}
use Rattle.keyed.proofs.Puts.{inserted_is}
use Rattle.keyed.proofs.table.Table.put_in.Goals as goal

pub invariant_of-self : goal.invariant_of-self
invariant_of-self g c =
    let key = g.R.Keyed.key in
    record { rising = rise_put key _ _ _ (Some c.args.row) c.args.self.now.rising refl (c.put_in.ensures.records ∙ inserted_is key _ _ _ c.requires.gap) }

pub returns : goal.returns
returns g c =
    let key = g.R.Keyed.key in
    sets key c.args.self.now _ _ (Some c.args.row) c.args.self.now.rising refl (c.put_in.ensures.records ∙ inserted_is key _ _ _ c.requires.gap) c.put_in.ensures.serving
