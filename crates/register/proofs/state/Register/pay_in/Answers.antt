use Rattle.std.proofs.Common.{◌≡◌, pos, Ok, MatchResult, rules}
use Rattle.register.specs.State.{Unchanged, Pays}
use Rattle.register.specs.Answers.{pays_in}
use Rattle.register.proofs.Steps.{pays_in_run}
use Rattle.register.proofs.state.Register.pay_in.Goals as goal

pub returns-in_err-after-clause-run : goal.returns-in_err-after-clause-run
returns-in_err-after-clause-run c =
    let r = c.args.self.now in
    let p = c.args.payment.portfolio in
    let k = c.args.payment.currency in
    let a = c.args.payment.amount in
    let is : c.from_residual.result ≡ pays_in r p k a = search rules in
    let left : MatchResult c.from_residual.result (λ _. Pays r p k (pos a) r) (λ _. Unchanged r r) = search rules in
    λ h H. pays_in_run h p k a r r c.from_residual.result H is left

pub returns-clause-run : goal.returns-clause-run
returns-clause-run c =
    let r = c.args.self.now in
    let p = c.args.payment.portfolio in
    let k = c.args.payment.currency in
    let a = c.args.payment.amount in
    let is : Ok tt ≡ pays_in r p k a = search rules in
    let left : Pays r p k (pos a) c.post.new.self = search rules in
    λ h H. pays_in_run h p k a r c.post.new.self (Ok tt) H is left
