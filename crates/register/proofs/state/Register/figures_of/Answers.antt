use Rattle.std.proofs.Common.{List, sym, ap, ◌∙◌, subst, arith}
use Rattle.margin.specs.declared.Currency.{Currency}
use Rattle.margin.specs.Sheets.{Apart}
use Rattle.margin.specs.Cash.{cash_sheet, cash_by, cash_holding}
use Rattle.margin.specs.Figures.{figures_of}
use Rattle.register.proofs.Currencies.{rising_apart}
use Rattle.register.proofs.state.Register.figures_of.Goals as goal

pub returns : goal.returns
returns c =
    let e = c.deref.ensures.value in
    let up = rising_apart _ c.args.self.now.currencies_rise in
    c.cash_figures.ensures (omega (arith, c.deref.ensures.len, c.args.self.now.few)) (subst (λ (cs : List Currency). Apart (λ x. x.code) cs) (sym e) up)
    ∙ ap (λ (cs : List Currency). figures_of (cash_sheet cs) (cash_holding (cash_by cs c.args.portfolio.now.cash))) e
