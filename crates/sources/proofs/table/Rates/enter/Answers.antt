use Rattle.sources.proofs.Entering.{entered}
use Rattle.sources.proofs.table.Rates.enter.Goals as goal

pub returns-clause-tables : goal.returns-clause-tables
returns-clause-tables g c =
    entered g.R.Keyed.key g.R.RateRow.pieces c.args.self.now.rows c.insert.new.self c.in_ok-row.row (g.R.RateRow.says c.args.rate) c.in_ok-row.ensures.row c.args.self.now.rows.rising c.in_ok-insert.ensures
