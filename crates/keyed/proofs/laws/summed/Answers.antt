use Rattle.keyed.proofs.Changes.{sums}
use Rattle.keyed.proofs.laws.summed.Goals as goal

pub returns : goal.returns
returns g c = sums g.R.Keyed.key
