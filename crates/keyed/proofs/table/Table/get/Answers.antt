use Rattle.std.proofs.Common.{sym, ◌∙◌}
use Rattle.keyed.proofs.Holdings.{standing_is, found}
use Rattle.keyed.proofs.table.Table.get.Goals as goal

pub returns-clause-value : goal.returns-clause-value
returns-clause-value g c =
    let key = g.R.Keyed.key in
    let s = found key c.args.self.now _ c.in_ok-at.at c.place.result c.place.ensures (sym c.ok.ensures.value ∙ c.in_ok-at.was) in
    standing_is key _ _ c.in_ok-at.at _ c.args.self.now.rising s c.row.ensures
