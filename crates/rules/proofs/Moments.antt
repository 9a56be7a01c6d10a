-- Moments of a history: what was ruled and closed stays so, and the checks that an accepted call has passed.
use Rattle.std.proofs.Common.{◌≡◌, true, false, not, eqb, List, [], ◌∷◌, sym, refl, ap, ◌∙◌, subst}
use Rattle.std.specs.List.{AllByRecursion}
use Rattle.std.proofs.ByRecursion.{all_kept_by}
use Rattle.std.proofs.lemmas.Bool.{both_ways, cond-true, cond-false}
use Rattle.margin.specs.Sheets.{Closed}
use Rattle.rules.specs.Calls.{Answer, done, Call, accepted, told, given, refused, open_portfolio, pay_in, pay_out, deliver_in, deliver_out, place, fill, cancel, figures, take_notice, record_paper, put_back, put_in_force}
use Rattle.rules.specs.Histories.{History, opened_with, asked, in_force}
use Rattle.rules.specs.Rules.{Check, first_of, Ruled, checks}
use Rattle.rules.specs.Laws.{AllUnchanged, Moment, last, sooner, RefusalsChangeNothing, PassesEarlier, ClosedSheets}
use Rattle.margin.proofs.Lists.{by_test}

pub refusals_change_nothing : (h : History) → RefusalsChangeNothing h
refusals_change_nothing h q c a m n e =
    subst (λ x. AllUnchanged q (asked q c x)) (sym e) record {
      each_portfolio = λ j. record { same_holding = refl; same_figures = refl; same_notice = refl };
      same_sheet = refl;
      same_portfolios = refl;
      same_orders = refl;
      same_lines = refl;
      same_journal = refl;
    }

pub at_moment : (q : History) {h : History} → Moment q h → Ruled h → Ruled q
at_moment q last R = R
at_moment q (sooner m) R = at_moment q m R.0

pub passes : (cs : List Check) (r a : Answer) → a ≡ first_of cs r → done a ≡ true → AllByRecursion (λ k. k.fails ≡ false) cs
passes [] r a e d = tt
passes (c ∷ cs) r a e d =
    by_test c.fails
    (λ t. absurd (both_ways (done a) (ap done (e ∙ cond-true c.fails _ _ t)) d))
    (λ f. (f, passes cs r a (e ∙ cond-false c.fails _ _ f) d))

-- every check but that for margin: what is shown of an accepted call from these holds too of one refused for margin, as if it were accepted
pub passed : (h : History) (c : Call) (a : Answer) → Ruled (asked h c a) → done a ≡ true → PassesEarlier h c
passed h c a R d = all_kept_by (λ k. not (eqb 24 k.number)) (λ k. k.fails ≡ false) (checks h c) (passes (checks h c) _ a R.1 d)

-- ---- sheets
pub closed_then : (q : History) {h : History} → Moment q h → ClosedSheets h → ClosedSheets q
closed_then q last C = C
closed_then q (sooner m) C = closed_then q m C.0

closed_by : (h : History) (c : Call) → ClosedSheets (asked h c accepted) → Closed (in_force h) → Closed (in_force (asked h c accepted))
closed_by h (open_portfolio p) C now = now
closed_by h (pay_in p x y) C now = now
closed_by h (pay_out p x y) C now = now
closed_by h (deliver_in p x y) C now = now
closed_by h (deliver_out p x y) C now = now
closed_by h (place o) C now = now
closed_by h (fill n x y) C now = now
closed_by h (cancel n) C now = now
closed_by h (figures p) C now = now
closed_by h (take_notice p) C now = now
closed_by h (record_paper w t) C now = now
closed_by h (put_back w) C now = now
closed_by h (put_in_force s) C now = C.1

-- the sheet in force is closed
pub closed_now : (h : History) → ClosedSheets h → Closed (in_force h)
closed_now (opened_with s n) C = C
closed_now (asked h c (refused n)) C = closed_now h C.0
closed_now (asked h c accepted) C = closed_by h c C (closed_now h C.0)
closed_now (asked h c (told f)) C = closed_by h c C (closed_now h C.0)
closed_now (asked h c (given p)) C = closed_by h c C (closed_now h C.0)
