use Rattle.std.proofs.Common.{◌≡◌, ℕ, ◌-◌, take, ap, ◌∙◌, arith}
use Rattle.register.proofs.Sheets.{begins}
use Rattle.register.proofs.NewSheets.{begins_run}
use Rattle.register.proofs.state.Register.begin.Goals as goal

pub returns-in-Ok-clause-run : goal.returns-in-Ok-clause-run
returns-in-Ok-clause-run c =
    let m = c.in-Ok.ensures in
    let n : c.currencies.result - 0 ≡ c.args.closed.currencies = omega arith in
    λ room e. begins_run c.args.closed c.args.table.now _ _ room c.requires.as_closed (begins _ _ _ (m.0 ∙ ap (λ (k : ℕ). take k c.args.table.now) n) m.1) e
