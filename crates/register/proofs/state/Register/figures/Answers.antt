use Rattle.std.proofs.Common.{◌≡◌, ℕ, Ok, sym, ap, ◌∙◌, rules}
use Rattle.margin.specs.Cash.{cash_holding}
use Rattle.margin.specs.Figures.{figures_of}
use Rattle.register.specs.State.{in_force}
use Rattle.register.specs.Answers.{tells}
use Rattle.register.proofs.Payments.{cash_of_row}
use Rattle.register.proofs.Steps.{tells_run}
use Rattle.register.proofs.state.Register.figures.Goals as goal

pub returns-in_err-portfolio-clause-run : goal.returns-in_err-portfolio-clause-run
returns-in_err-portfolio-clause-run c =
    let is : c.from_residual.result ≡ tells c.args.self.now c.args.portfolio = search rules in
    λ h H. tells_run h c.args.portfolio c.args.self.now H c.from_residual.result is

pub returns : goal.returns
returns c =
    let r = c.args.self.now in
    let row = c.in_ok-portfolio.portfolio in
    let is : Ok c.figures_of.result ≡ tells r c.args.portfolio =
    ap Ok (c.figures_of.ensures ∙ ap (λ (f : ℕ → _). figures_of (in_force r) (cash_holding f)) (sym (cash_of_row r c.args.portfolio row c.in_ok-portfolio.ensures.0)))
    ∙ sym c.in_ok-portfolio.ensures.1 in
    record { answer = is; run = λ h H. tells_run h c.args.portfolio r H (Ok c.figures_of.result) is }
