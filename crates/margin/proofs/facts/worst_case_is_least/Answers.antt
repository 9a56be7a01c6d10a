use Rattle.margin.proofs.WorstCase.{worst_is_least}
use Rattle.margin.proofs.facts.worst_case_is_least.Goals as goal

pub returns : goal.returns
returns c = worst_is_least
