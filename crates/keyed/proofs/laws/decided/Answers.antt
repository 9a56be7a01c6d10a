use Rattle.keyed.proofs.Lookups.{same_lookups}
use Rattle.keyed.proofs.laws.decided.Goals as goal

pub returns : goal.returns
returns g c = same_lookups g.R.Keyed.key
