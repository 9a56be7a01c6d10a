use Rattle.margin.proofs.ListFillings.{fillings_are_lists}
use Rattle.margin.proofs.facts.fillings_are_lists.Goals as goal

pub returns : goal.returns
returns c = fillings_are_lists
