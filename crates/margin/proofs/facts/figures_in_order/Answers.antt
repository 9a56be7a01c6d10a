use Rattle.margin.proofs.Worths.{nought_is_nought, worth_at_most, shocked_at_most_all}
use Rattle.margin.proofs.InOrder.{first_at_most_value, initial_not_negative, minimum_is_half, worst_at_most_first}
use Rattle.margin.proofs.facts.figures_in_order.Goals as goal

pub returns : goal.returns
returns c = record {
  nought = nought_is_nought;
  worth = worth_at_most;
  shocked = shocked_at_most_all;
  first = first_at_most_value;
  initial = initial_not_negative;
  minimum = minimum_is_half;
  worst = worst_at_most_first;
}
