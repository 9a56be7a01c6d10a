use Rattle.std.proofs.Common.{◌≡◌, Ok, Err, rules, ℕ, ◌-◌, true, false, List, take, sym, refl, ap, ◌∙◌, subst, arith}
use Rattle.std.proofs.lemmas.Bool.{cond-true}
use Rattle.keyed.specs.Rows.{Rising}
use Rattle.margin.specs.declared.Currency.{Currency}
use Rattle.margin.specs.Cash.{cash_sheet}
use Rattle.margin.specs.Keys.{currency_code}
use Rattle.sheet.specs.Drafts.{closed_entries, incomplete}
use Rattle.register.specs.State.{currencies}
use Rattle.register.specs.Answers.{same_codes, puts}
use Rattle.register.proofs.SameCodes.{same_length, fitting}
use Rattle.register.proofs.Sheets.{put}
use Rattle.register.proofs.NewSheets.{puts_run}
use Rattle.register.proofs.state.Register.put_in_force.Goals as goal

pub overwrite-requires : goal.overwrite-requires
overwrite-requires c =
    let same = fitting (same_codes c.as_slice.result.now (take (c.currencies.result - 0) c.args.table.now)) _ c.in_default.ensures in
    omega (arith, same_length c.as_slice.result.now (take (c.currencies.result - 0) c.args.table.now) same)

pub invariant_of-self : goal.invariant_of-self
invariant_of-self c =
    let n : c.currencies.result - 0 ≡ c.args.closed.currencies = omega arith in
    let e = c.overwrite.ensures.items ∙ ap (λ (k : ℕ). take k c.args.table.now) n in
    record {
      few = omega (arith, c.overwrite.ensures.len, c.args.self.now.few);
      currencies_rise = subst (λ (cs : List Currency). Rising currency_code cs) (sym e) c.requires.as_closed.rising;
      complete = subst (λ (cs : List Currency). incomplete (cash_sheet cs) ≡ false) (sym e) c.requires.as_closed.complete;
    }

pub returns-in-Err-clause-run : goal.returns-in-Err-clause-run
returns-in-Err-clause-run c =
    let r = c.args.self.now in
    let is : Err (c.into.result, c.args.closed) ≡ puts r c.args.closed c.args.table.now = search rules in
    λ h H. puts_run h c.args.closed c.args.table.now r r H c.requires.as_closed (Err (c.into.result, c.args.closed)) is (record { currencies = refl; portfolios = refl })

pub returns : goal.returns
returns c =
    let n : c.currencies.result - 0 ≡ c.args.closed.currencies = omega arith in
    let e = ap (λ (k : ℕ). take k c.args.table.now) n in
    let same = fitting (same_codes c.as_slice.result.now (take (c.currencies.result - 0) c.args.table.now)) _ c.in_default.ensures in
    let codes : same_codes (currencies c.args.self.now) (closed_entries c.args.closed c.args.table.now) ≡ true =
    ap (λ (cs : List Currency). same_codes cs (closed_entries c.args.closed c.args.table.now)) (sym c.as_slice.ensures.value) ∙ ap (same_codes c.as_slice.result.now) (sym e) ∙ same in
    let is = sym (cond-true _ _ _ codes) in
    let left = put c.args.self.now _ _ (c.overwrite.ensures.items ∙ e) refl codes in
    record { answer = is; tables = left; run = λ h H. puts_run h c.args.closed c.args.table.now c.args.self.now _ H c.requires.as_closed (Ok tt) is left }
