use Rattle.margin.proofs.IdleLines.{figures_relined, gross_relined}
use Rattle.margin.proofs.facts.idle_lines_count_nothing.Goals as goal

pub returns : goal.returns
returns c = record { figures = figures_relined; gross = gross_relined }
