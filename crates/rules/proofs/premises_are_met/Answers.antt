use Rattle.rules.proofs.Premises.{premises_are_met}
use Rattle.rules.proofs.premises_are_met.Goals as goal

pub returns : goal.returns
returns c = premises_are_met
