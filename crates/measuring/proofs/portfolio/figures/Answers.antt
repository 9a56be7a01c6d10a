use Rattle.std.proofs.Common.{sym, subst, rules}
use Rattle.keyed.specs.Rows.{Rising}
use Rattle.margin.specs.Keys.{instrument_code}
use Rattle.measuring.proofs.Portfolios.{eight_there, lines_apart, instruments_rise, figures_are}
use Rattle.measuring.proofs.portfolio.figures.Goals as goal

pub valued-requires-clause-rising : goal.valued-requires-clause-rising
valued-requires-clause-rising g c = subst (Rising instrument_code) (sym (eight_there c.args.units.now _ c.in_ok-instruments.ensures)) (instruments_rise 1000 c.args.units.now)

pub valued-requires-clause-lines_apart : goal.valued-requires-clause-lines_apart
valued-requires-clause-lines_apart g c = lines_apart 1000 c.args.units.now _ c.in_ok-lines.ensures.1

pub returns : goal.returns
returns g c =
    figures_are (g.R.RateRow.says c.args.rate) c.args.cash c.args.units.now c.args.requests.now (g.R.RateRow.pieces c.in_ok-row.row) c.in_ok-instruments.instruments c.in_ok-lines.lines c.in_ok-orders.orders c.valued.result
    (search rules) (search rules) c.in_ok-instruments.ensures c.in_ok-lines.ensures c.in_ok-orders.ensures (search rules)
