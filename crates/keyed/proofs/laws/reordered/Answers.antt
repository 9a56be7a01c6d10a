use Rattle.keyed.proofs.Reputs.{reordering}
use Rattle.keyed.proofs.laws.reordered.Goals as goal

pub returns : goal.returns
returns g c = reordering g.R.Keyed.key
