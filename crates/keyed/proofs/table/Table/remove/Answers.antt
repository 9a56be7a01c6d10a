use Rattle.std.proofs.Common.{ℕ, None, sym, ap, subst, ◌∙◌}
use Rattle.keyed.specs.Rows.{lookup}
use Rattle.keyed.specs.Tables.{entries, Sets}
use Rattle.keyed.proofs.Holdings.{found}
use Rattle.keyed.proofs.table.Table.remove.Goals as goal

pub returns : goal.returns
returns g c =
    let key = g.R.Keyed.key in
    let t = c.args.self.now in
    let taken = c.take_out.ensures in
    let s = found key t _ c.in_ok-at.at c.place.result c.place.ensures (sym c.ok.ensures.value ∙ c.in_ok-at.was) in
    let same = ap key taken.row ∙ s.here c.take_out.result in
    record { was = taken.was ∙ ap (lookup key (entries t)) same; sets = subst (λ (q : ℕ). Sets key t c.take_out.new.self q None) same taken.sets }
