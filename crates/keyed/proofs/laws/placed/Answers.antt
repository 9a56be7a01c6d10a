use Rattle.keyed.proofs.Changes.{placed}
use Rattle.keyed.proofs.laws.placed.Goals as goal

pub returns : goal.returns
returns g c = placed g.R.Keyed.key
