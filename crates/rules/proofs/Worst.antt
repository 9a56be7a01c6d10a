-- Under one sheet no accepted call leaves a worst case both below nought and lower.
use Rattle.std.proofs.Common.{◌≡◌, ℕ, Bool, true, false, cond, ◌&&◌, eqb, ltb, ℤ, pos, ◌+ℤ◌, nat_abs, ◌≤ℤ◌, Some, filter, sym, refl, ap, ◌∙◌, subst, inl, inr, arith}
use Rattle.std.specs.List.{AllByRecursion}
use Rattle.std.proofs.lemmas.Int.{ints}
use Rattle.std.proofs.lemmas.Bool.{eqb-true, or_parts, not-false, both_ways}
use Rattle.margin.specs.declared.Order.{Order}
use Rattle.margin.specs.Sheets.{Closed}
use Rattle.margin.specs.Orders.{worse_than_own}
use Rattle.margin.specs.Holdings.{Lined}
use Rattle.margin.specs.Fillings.{worst}
use Rattle.rules.specs.Calls.{Call, Answer, open_portfolio, pay_in, pay_out, deliver_in, deliver_out, place, cancel, figures, take_notice, record_paper, put_back, put_in_force, done, accepted, told, given, refused, fill}
use Rattle.rules.specs.Histories.{History, asked, in_force, standing, line_exists, holding, owner, cash, planned, orders}
use Rattle.rules.specs.Rules.{then, Ruled, worst_now, checks, reply, beyond_open, beyond_price}
use Rattle.rules.specs.Laws.{OneSheet, same, more, new_sheet, Kept, WorstCaseKept, ClosedSheets, concerns}
use Rattle.margin.proofs.Fills.{fill_never_lowers}
use Rattle.margin.proofs.Lists.{by_test, kept_swap}
use Rattle.margin.proofs.NeverLower.{NoWorse, never_lower_lined, lighter_same, lighter_kept}
use Rattle.rules.proofs.Orders.{mine, named, others, some_is, first_kept, less_mine, none_mine}
use Rattle.rules.proofs.Kept.{kept_equal, kept_along, not_worse}
use Rattle.rules.proofs.Lines.{Exact, exact, exact_step, lines_any_of}
use Rattle.rules.proofs.Moments.{at_moment, passes, closed_then, closed_now}
use Rattle.rules.proofs.Standing.{numbers_apart}
use Rattle.rules.proofs.Untouched.{worst_left}

-- every code with a position or an order has a line
holding_lined : (h : History) → Exact h → (j : ℕ) → Lined (holding h j)
holding_lined h E j code =
    by_test (line_exists h j code)
    (λ y. inl (lines_any_of h E j code ∙ y))
    (λ n. let (a, b) = or_parts _ _ n in let z : nat_abs (planned h j code) ≡ 0 = eqb-true _ _ (not-false _ a) in inr (omega (arith, ints), none_mine code j (orders h) b))

stays : (z : ℤ) → z ≤ℤ (z +ℤ pos 0)
stays z = omega (arith, ints)

adds : (z : ℤ) (t : Bool) (x : ℕ) → z ≤ℤ (z +ℤ cond t (pos x) (pos 0))
adds z true x = omega (arith, ints)
adds z false x = omega (arith, ints)

-- ---- one call that was done, and the portfolio j that it is for
module _ (h : History) (C : Closed (in_force h)) (R : Ruled h) (j : ℕ) where
  abbrev Step : Call → Type 0
  Step c = Kept (worst_now h j) (worst_now (then h c) j)

  lined_then : (c : Call) → Lined (holding (then h c) j)
  lined_then c = holding_lined (then h c) (exact_step h c (numbers_apart h R) (exact h R)) j

  raised : (g : History) → Lined (holding g j) → NoWorse (holding h j) (holding g j) → Kept (worst_now h j) (worst (in_force h) (holding g j))
  raised g l n = inr (never_lower_lined (in_force h) C (holding h j) (holding g j) (holding_lined h (exact h R) j) l n)

  moved_nothing : Step (figures 0)
  moved_nothing = kept_equal _ _ (sym (worst_left h (figures 0) j R refl))

  judged_at : (c : Call) (p : ℕ) → eqb j p ≡ true → Kept (worst_now h p) (worst_now (then h c) p) → Step c
  judged_at c p e k = subst (λ i. Kept (worst_now h i) (worst_now (then h c) i)) (sym (eqb-true j p e)) k

  -- a fill of an order of j's, within its own price
  fill_step : (n q x : ℕ) (o : Order) → standing h n ≡ Some o → ltb o.left q ≡ false → worse_than_own o x ≡ false → mine j o ≡ true → Step (fill n q x)
  fill_step n q x o st enough fair m =
      inr (fill_never_lowers (in_force h) C n q x o (holding h j) (holding (then h (fill n q x)) j) record {
        standing = first_kept (mine j) (named n) o (orders h) st m;
        enough = enough;
        fair = fair;
        cash = λ c. simp (st, m);
        planned = λ code. simp (st, m);
        orders = less_mine j n q o (orders h) st m;
      } (holding_lined h (exact h R) j) (lined_then (fill n q x)))

  step : (c : Call) (a : Answer) → done a ≡ true → new_sheet c a ≡ false → concerns h c j ≡ true → AllByRecursion (λ k. k.fails ≡ false) (checks h c) → Step c
  step (pay_in p c x) a d N t P = raised (then h (pay_in p c x)) (lined_then (pay_in p c x)) record {
    cash = λ k. adds (cash h j k) (eqb j p && eqb k c) x;
    planned = λ code. stays (planned h j code);
    orders = lighter_same _ _ refl;
  }
  step (pay_out p c x) a d N t P = judged_at (pay_out p c x) p t (not_worse _ _ P.1.1.1.1.0)
  step (deliver_in p c q) a d N t P = raised (then h (deliver_in p c q)) (lined_then (deliver_in p c q)) record {
    cash = λ k. stays (cash h j k);
    planned = λ code. adds (planned h j code) (eqb j p && eqb code c) q;
    orders = lighter_same _ _ refl;
  }
  step (deliver_out p c q) a d N t P = judged_at (deliver_out p c q) p t (not_worse _ _ P.1.1.1.1.0)
  step (place o) a d N t P = judged_at (place o) o.portfolio t (not_worse _ _ P.1.1.1.1.1.1.1.0)
  step (fill n q x) a d N t P =
      let (o, st) = some_is (standing h n) (not-false _ P.1.0) in
      fill_step n q x o st (ap (λ s. beyond_open s q) (sym st) ∙ P.1.1.0) (ap (λ s. beyond_price s x) (sym st) ∙ P.1.1.1.0) (ap (λ s. eqb j (owner s)) (sym st) ∙ t)
  step (cancel n) a d N t P = raised (then h (cancel n)) (lined_then (cancel n)) record {
    cash = λ k. stays (cash h j k);
    planned = λ code. stays (planned h j code);
    orders = rw (kept_swap (mine j) (others n) (orders h)) (lighter_kept (others n) (filter (mine j) (orders h)));
  }
  step (open_portfolio p) a d N t P = moved_nothing
  step (figures p) a d N t P = moved_nothing
  step (take_notice p) a d N t P = moved_nothing
  step (record_paper w m) a d N t P = moved_nothing
  step (put_back w) a d N t P = moved_nothing
  step (put_in_force s) a d N t P = absurd (both_ways (done a) N d)

  step_done : (c : Call) (a : Answer) → done a ≡ true → new_sheet c a ≡ false → AllByRecursion (λ k. k.fails ≡ false) (checks h c) → Step c
  step_done c a d N P = by_test (concerns h c j) (λ t. step c a d N t P) (λ f. kept_equal _ _ (sym (worst_left h c j R f)))

one_step : (h : History) (c : Call) (a : Answer) → ClosedSheets (asked h c a) → Ruled (asked h c a) → new_sheet c a ≡ false → (j : ℕ) → Kept (worst_now h j) (worst_now (asked h c a) j)
one_step h c (refused n) C R N j = kept_equal _ _ refl
one_step h c accepted C R N j = step_done h (closed_now h C.0) R.0 j c accepted refl N (passes (checks h c) (reply h c) accepted R.1 refl)
one_step h c (told f) C R N j = step_done h (closed_now h C.0) R.0 j c (told f) refl N (passes (checks h c) (reply h c) (told f) R.1 refl)
one_step h c (given w) C R N j = step_done h (closed_now h C.0) R.0 j c (given w) refl N (passes (checks h c) (reply h c) (given w) R.1 refl)

between : (p : History) {q : History} → OneSheet p q → ClosedSheets q → Ruled q → (j : ℕ) → Kept (worst_now p j) (worst_now q j)
between p same C R j = kept_equal _ _ refl
between p (more {q = q} {c = c} {a = a} s k) C R j = kept_along _ _ _ (between p s C.0 R.0 j) (one_step q c a C R k j)

pub worst_case_kept : (h : History) → ClosedSheets h → Ruled h → WorstCaseKept h
worst_case_kept h C R p q s m j = between p s (closed_then q m C) (at_moment q m R) j
