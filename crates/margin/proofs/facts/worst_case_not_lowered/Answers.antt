use Rattle.margin.proofs.NeverLower.{more_cash, more_units, fewer_orders}
use Rattle.margin.proofs.Fills.{fill_never_lowers}
use Rattle.margin.proofs.facts.worst_case_not_lowered.Goals as goal

pub returns : goal.returns
returns c = record { cash = more_cash; units = more_units; orders = fewer_orders; fills = fill_never_lowers }
