use Rattle.keyed.proofs.Changes.{sized}
use Rattle.keyed.proofs.laws.sized.Goals as goal

pub returns : goal.returns
returns g c = sized g.R.Keyed.key
