use Rattle.keyed.proofs.Puts.{counted}
use Rattle.keyed.proofs.laws.counted.Goals as goal

pub returns : goal.returns
returns g c = counted g.R.Keyed.key
