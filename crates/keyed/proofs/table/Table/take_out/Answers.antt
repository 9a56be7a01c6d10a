use Rattle.std.proofs.Common.{None, ◌∙◌}
use Rattle.keyed.proofs.Holdings.{rise_put, standing_is, sets, stands}
use Rattle.keyed.proofs.Puts.{removed_is}
use Rattle.keyed.proofs.table.Table.take_out.Goals as goal

pub invariant_of-self : goal.invariant_of-self
invariant_of-self g c =
    let key = g.R.Keyed.key in
    let up = c.args.self.now.rising in
    let s = stands key _ c.args.at _ c.requires c.take_out.ensures.was in
    record { rising = rise_put key _ _ _ None up tt (c.take_out.ensures.records ∙ removed_is key _ _ _ up s) }

pub returns : goal.returns
returns g c =
    let key = g.R.Keyed.key in
    let up = c.args.self.now.rising in
    let s = stands key _ c.args.at _ c.requires c.take_out.ensures.was in
    record {
      row = c.take_out.ensures.was;
      was = standing_is key _ _ _ _ up s c.take_out.ensures.was;
      sets = sets key c.args.self.now _ _ None up tt (c.take_out.ensures.records ∙ removed_is key _ _ _ up s) c.take_out.ensures.serving;
    }
