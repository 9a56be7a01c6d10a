-- Opening and putting in force, as the beginning and a step of a history.
use Rattle.std.proofs.Common.{◌≡◌, ℕ, Bool, true, false, not, ◌||◌, eqb, List, [], ◌∷◌, pos, is_some, Some, None, Ok, Err, Option, Result, sym, refl, ap, ◌∙◌, subst, arith, MatchResult}
use Rattle.std.proofs.lemmas.Bool.{eqb-true, and_parts, or_parts, both_ways, cond-true, cond-false}
use Rattle.keyed.specs.Rows.{Rising}
use Rattle.margin.specs.declared.Currency.{Currency}
use Rattle.margin.specs.Numbers.{any}
use Rattle.margin.specs.Sheets.{Sheet, Closed, instrument_at}
use Rattle.margin.specs.Limits.{over_gross}
use Rattle.margin.specs.Cash.{cash_sheet}
use Rattle.margin.specs.Keys.{currency_code}
use Rattle.margin.proofs.Integers.{add_nought}
use Rattle.rules.specs.Calls.{put_in_force}
use Rattle.rules.specs.Histories as histories
use Rattle.rules.specs.Histories.{History, Places, opened_with, asked, Spot}
use Rattle.rules.specs.Rules.{then, ruled, gross_over, does_not_fit, other_currencies, currency_changed}
use Rattle.rules.proofs.Grosses.{within_limit}
use Rattle.sheet.specs.declared.drafts.ClosedSheet.{ClosedSheet}
use Rattle.sheet.specs.Drafts.{incomplete, has_unrated, has_rouble_at_par, at_par, unrated, AsClosed, closed_entries}
use Rattle.register.specs.declared.faults.RegisterFault.{RegisterFault}
use Rattle.register.specs.declared.records.Portfolio.{Portfolio}
use Rattle.register.specs.declared.state.Register.{Register}
use Rattle.register.specs.State.{currencies, in_force, portfolio, cash_in, cash, Unchanged, Begins, Puts}
use Rattle.register.specs.Answers.{puts, same_codes}
use Rattle.register.specs.Runs.{said_put, Holds, Reached, Run}
use Rattle.register.proofs.Histories.{holding_is, IdleButCash, holding_then, holds_then, same_holds, run}

-- ---- a sheet that closes has the rouble alone, as no rate can be entered
abbrev pub the_rouble : Currency
the_rouble = record { code = 643; fx = 10000 }

not_true : (b : Bool) → not b ≡ false → b ≡ true
not_true true e = refl
not_true false e = absurd (both_ways true e refl)

single : (b : Bool) → (b || false) ≡ true → b ≡ true
single true e = refl
single false e = e

is_rouble : (c : Currency) → not (eqb c.code 643 || false) ≡ false → c.code ≡ 643
is_rouble c e = eqb-true c.code 643 (single (eqb c.code 643) (not_true _ e))

pub rouble_alone : (cs : List Currency) → Rising currency_code cs → incomplete (cash_sheet cs) ≡ false → cs ≡ the_rouble ∷ []
rouble_alone [] up e = absurd (both_ways true e refl)
rouble_alone (c ∷ []) up e =
    let p = or_parts (not (has_rouble_at_par (cash_sheet (c ∷ [])))) (has_unrated (cash_sheet (c ∷ []))) e in
    let par = and_parts (eqb c.code 643) (eqb c.fx 10000) (single (at_par c) (not_true _ p.0)) in
    λ i. record { code = eqb-true c.code 643 par.0 i; fx = eqb-true c.fx 10000 par.1 i } ∷ []
rouble_alone (c ∷ (d ∷ ds)) up e =
    let p = or_parts (not (has_rouble_at_par (cash_sheet (c ∷ (d ∷ ds))))) (has_unrated (cash_sheet (c ∷ (d ∷ ds)))) e in
    let s = cash_sheet (c ∷ (d ∷ ds)) in
    let u = or_parts (unrated s c) (any (unrated s) (d ∷ ds)) p.1 in
    let v = or_parts (unrated s d) (any (unrated s) ds) u.1 in
    absurd (omega (arith, up 0 c (omega arith), is_rouble c u.0, is_rouble d v.0))

-- what the laws ask of a closed sheet
pub closed_sheet : (cs : List Currency) → Rising currency_code cs → incomplete (cash_sheet cs) ≡ false → Closed (cash_sheet cs)
closed_sheet cs up e =
    subst (λ (l : List Currency). Closed (cash_sheet l)) (sym (rouble_alone cs up e)) (record {
      currencies_apart = (tt, tt);
      instruments_apart = tt;
      rouble_at_par = refl;
      currencies_there = tt;
      currencies_rated = (refl, tt);
      instruments_rated = tt;
      allowances_bounded = tt;
      source_keeps_the_rules = λ c k. absurd (both_ways false refl k);
    })

-- ---- opening
no_cash : (cs : List Currency) (o : Option Portfolio) (k : ℕ) → is_some o ≡ false → cash_in cs o k ≡ pos 0
no_cash cs None k e = refl
no_cash cs (Some x) k e = absurd (both_ways true e refl)

pub begins_run : (c : ClosedSheet) (table : List Currency) (n : ℕ) (t : Register) (room : Places) → AsClosed c table → Begins (cash_sheet (closed_entries c table)) n t → room.portfolios ≡ n →
    Run (opened_with (cash_sheet (closed_entries c table)) room) t
begins_run c table n t room A b e = run _ t (record {
  closed = closed_sheet (closed_entries c table) A.rising A.complete;
  ruled = tt;
  holds = record {
    sheet = sym b.sheet;
    «open» = λ j. sym (b.«open» j);
    cash = λ j k. sym (no_cash (currencies t) (portfolio t j) k (b.«open» j));
    planned = λ j k. refl;
    orders = refl;
    lines = refl;
    count = sym b.count;
    places = e ∙ sym b.places;
  };
})

-- ---- putting in force
none_of : (f : ℕ → Bool) → ((j : ℕ) → f j ≡ false) → (js : List ℕ) → any f js ≡ false
none_of f h [] = refl
none_of f h (j ∷ js) = ap (λ (b : Bool). b || any f js) (h j) ∙ none_of f h js

module _ (h : History) (c : ClosedSheet) (table : List Currency) (r t : Register) (R : Reached h r) (A : AsClosed c table) where
  abbrev sheet : Sheet
  sheet = cash_sheet (closed_entries c table)

  ours : currencies r ≡ the_rouble ∷ []
  ours = rouble_alone (currencies r) r.currencies_rise r.complete

  theirs : closed_entries c table ≡ the_rouble ∷ []
  theirs = rouble_alone (closed_entries c table) A.rising A.complete

  same_sheet : sheet ≡ histories.in_force h
  same_sheet = ap cash_sheet (theirs ∙ sym ours) ∙ sym R.holds.sheet

  idle : IdleButCash h (put_in_force sheet) (λ j k. pos 0)
  idle = record { pays = λ j k. refl; delivers = λ j k. refl; reorders = refl; touches = refl; closes = closed_sheet (closed_entries c table) A.rising A.complete }

  same_holding : (j : ℕ) → histories.holding (then h (put_in_force sheet)) j ≡ histories.holding h j
  same_holding j =
      holding_then h (put_in_force sheet) (λ j k. pos 0) r idle R.holds j
      ∙ (λ i. record { cash = λ k. add_nought (cash r j k) (pos 0) refl i; planned = λ _. pos 0; lines = []; orders = [] })
      ∙ sym (holding_is h r R.holds j)

  fits : does_not_fit h sheet ≡ false
  fits =
      ap (λ (s : Sheet). other_currencies s sheet || any (λ b. currency_changed (instrument_at s b.code) (instrument_at sheet b.code)) (histories.lines h)) R.holds.sheet
      ∙ ap (λ (ls : List Spot). other_currencies (in_force r) sheet || any (λ b. currency_changed (instrument_at (in_force r) b.code) (instrument_at sheet b.code)) ls) R.holds.lines
      ∙ ap (λ (cs : List Currency). other_currencies (cash_sheet cs) sheet || false) ours
      ∙ ap (λ (cs : List Currency). other_currencies (cash_sheet (the_rouble ∷ [])) (cash_sheet cs) || false) theirs

  within : any (gross_over (then h (put_in_force sheet))) (histories.portfolios h) ≡ false
  within =
      none_of (gross_over (then h (put_in_force sheet)))
      (λ j. ap (over_gross sheet) (same_holding j) ∙ ap (λ (s : Sheet). over_gross s (histories.holding h j)) same_sheet ∙ within_limit h R.ruled j)
      (histories.portfolios h)

  put_ruled : said_put (puts r c table) ≡ ruled h (put_in_force sheet)
  put_ruled =
      ap said_put (cond-true _ _ _ (ap (λ (cs : List Currency). same_codes cs (closed_entries c table)) ours ∙ ap (same_codes (the_rouble ∷ [])) theirs))
      ∙ sym (cond-false _ _ _ fits ∙ cond-false _ _ _ within)

  put_holds : Puts r sheet t → Holds (then h (put_in_force sheet)) t
  put_holds p =
      holds_then h (put_in_force sheet) (λ j k. pos 0) r idle R.holds t (sym p.sheet) (λ j. R.holds.«open» j ∙ sym (p.«open» j))
      (λ j k. p.cash j k ∙ sym (add_nought (cash r j k) (pos 0) refl)) (R.holds.count ∙ sym p.count) p.places

  put_step : (a : Result (Unit {0}) (RegisterFault × ClosedSheet)) → said_put a ≡ ruled h (put_in_force sheet) → MatchResult a (λ _. Puts r sheet t) (λ _. Unchanged r t) → Run (asked h (put_in_force sheet) (said_put a)) t
  put_step (Ok u) e p = run _ t (record { closed = (R.closed, idle.closes); ruled = (R.ruled, e); holds = put_holds p })
  put_step (Err x) e same =
      let H = same_holds h r t same R.holds in
      run _ t (record {
        closed = (R.closed, idle.closes);
        ruled = (R.ruled, e);
        holds = record { sheet = H.sheet; «open» = H.«open»; cash = H.cash; planned = H.planned; orders = H.orders; lines = H.lines; count = H.count; places = H.places };
      })

  pub puts_run : (a : Result (Unit {0}) (RegisterFault × ClosedSheet)) → a ≡ puts r c table → MatchResult a (λ _. Puts r sheet t) (λ _. Unchanged r t) → Run (asked h (put_in_force sheet) (said_put a)) t
  puts_run a is left = put_step a (ap said_put is ∙ put_ruled) left
