use Rattle.keyed.proofs.Changes.{taken_back}
use Rattle.keyed.proofs.laws.taken_back.Goals as goal

pub returns : goal.returns
returns g c = taken_back g.R.Keyed.key
