use Rattle.std.proofs.Common.{◌≡◌, Ok, MatchResult, rules}
use Rattle.register.specs.State.{Unchanged, Opens}
use Rattle.register.specs.Answers.{opens}
use Rattle.register.proofs.Steps.{opens_run}
use Rattle.register.proofs.state.Register.open_portfolio.Goals as goal

pub returns-in_err-check_opening-clause-run : goal.returns-in_err-check_opening-clause-run
returns-in_err-check_opening-clause-run c =
    let r = c.args.self.now in
    let p = c.args.portfolio in
    let is : c.from_residual.result ≡ opens r p = search rules in
    let left : MatchResult c.from_residual.result (λ _. Opens r p r) (λ _. Unchanged r r) = search rules in
    λ h H. opens_run h p r r c.from_residual.result H is left

pub returns-clause-run : goal.returns-clause-run
returns-clause-run c =
    let r = c.args.self.now in
    let p = c.args.portfolio in
    let is : Ok tt ≡ opens r p = search rules in
    λ h H. opens_run h p r c.add.new.self (Ok tt) H is c.add.ensures
