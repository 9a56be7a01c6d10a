use Rattle.keyed.proofs.Changes.{changes}
use Rattle.keyed.proofs.laws.looked_up.Goals as goal

pub returns : goal.returns
returns g c = changes g.R.Keyed.key
