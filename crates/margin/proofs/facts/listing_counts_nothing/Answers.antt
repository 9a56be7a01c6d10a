use Rattle.margin.proofs.Same.{order_of_listing}
use Rattle.margin.proofs.facts.listing_counts_nothing.Goals as goal

pub returns : goal.returns
returns c = order_of_listing
