-- Every portfolio stays within its gross limit.
use Rattle.std.proofs.Common.{◌≡◌, ℕ, ◌≤◌, Bool, true, false, cond, not, ◌&&◌, ◌||◌, eqb, ltb, List, [], ◌∷◌, ℤ, pos, ◌+ℤ◌, ◌-ℤ◌, neg_ℤ, nat_abs, ◌≤ℤ◌, filter, sym, refl, ap, ◌∙◌, subst, ⊎_elim, arith}
use lib.Signed.{lt_z}
use borrow.Author.Differences.{abs_is}
use Rattle.std.proofs.ByRecursion.{All-weaker, all-has}
use Rattle.std.proofs.lemmas.Int.{ints}
use Rattle.std.proofs.lemmas.Bool.{ltb-false, both_ways, eqb-true, ne_eqb, eqb-false, and_left, and_parts, or_cases, or_left, or_right, not-true}
use Rattle.margin.specs.declared.Order.{Order}
use Rattle.margin.specs.Numbers.{any, below, count}
use Rattle.margin.specs.Sheets.{Sheet}
use Rattle.margin.specs.Orders.{on}
use Rattle.margin.specs.Limits.{gross, gross_limit, highest, cover, over_gross}
use Rattle.rules.specs.Calls.{Call, accepted, told, given, refused, open_portfolio, pay_in, pay_out, deliver_in, deliver_out, place, fill, cancel, figures, take_notice, record_paper, put_back, put_in_force}
use Rattle.rules.specs.Histories.{History, opened_with, asked, orders, portfolios, is_open, cash, planned, in_force, standing, line_exists, holding, owner}
use Rattle.rules.specs.Rules.{then, Ruled, gross_over}
use Rattle.rules.specs.Laws.{PassesEarlier, GrossKept, concerns}
use Rattle.margin.proofs.Grosses.{over_within, none_held, none_over, Within, open_on, highest_kept}
use Rattle.margin.proofs.Integers.{not_less, add_nought}
use Rattle.margin.proofs.Lists.{none_any, by_test, kept_swap, kept_none, any_none, any_has}
use Rattle.margin.proofs.Sums.{count_fewer}
use Rattle.rules.proofs.Orders.{mine, others}
use Rattle.rules.proofs.Lines.{exact, exact_step, lines_any_of, lines_any}
use Rattle.rules.proofs.Moments.{at_moment, passed}
use Rattle.rules.proofs.Portfolios.{empty, no_orders}
use Rattle.rules.proofs.Standing.{numbers_apart}
use Rattle.rules.proofs.Untouched.{sheet_left, holding_left}

exists_mono : (z z' : ℤ) (b b' : Bool) → nat_abs z' ≤ nat_abs z → (b' ≡ true → b ≡ true) → (not (eqb (nat_abs z') 0) || b') ≡ true → (not (eqb (nat_abs z) 0) || b) ≡ true
exists_mono z z' b b' l f e =
    ⊎_elim
    (λ x. let n = eqb-false (nat_abs z') 0 (not-true _ x) in or_left _ b (ap not (ne_eqb (nat_abs z) 0 (λ q. n (omega arith)))))
    (λ y. or_right (not (eqb (nat_abs z) 0)) b (f y))
    (or_cases _ _ e)

any_sub : {X : Type 0} (t u : X → Bool) (xs : List X) → any t (filter u xs) ≡ true → any t xs ≡ true
any_sub t u [] e = e
any_sub t u (x ∷ xs) e =
    by_test (u x)
    (λ y. let e' : (t x || any t (filter u xs)) ≡ true = rw y at e in ⊎_elim (λ a. or_left (t x) (any t xs) a) (λ b. or_right (t x) (any t xs) (any_sub t u xs b)) (or_cases (t x) (any t (filter u xs)) e'))
    (λ n. let e' : any t (filter u xs) ≡ true = rw n at e in or_right (t x) (any t xs) (any_sub t u xs e'))

abs_still : (z : ℤ) → nat_abs (z +ℤ pos 0) ≤ nat_abs z
abs_still z = let e = add_nought z (pos 0) refl in rw e (omega arith)

abs_taken : (z : ℤ) (n q : ℕ) (t : Bool) → (t ≡ true → lt_z (z -ℤ pos n) (pos q) ≡ false) → nat_abs (z +ℤ cond t (neg_ℤ (pos q)) (pos 0)) ≤ nat_abs z
abs_taken z n q false f = abs_still z
abs_taken z n q true f =
    let l : pos q ≤ℤ (z -ℤ pos n) = not_less (z -ℤ pos n) (pos q) (f refl) in
    omega (arith, ints, abs_is z, abs_is (z +ℤ neg_ℤ (pos q)))

-- ---- a cancellation, and a delivery out, leave no part larger
cancel_within : (h : History) (n j : ℕ) → Ruled h → Within (holding (then h (cancel n)) j) (holding h j)
cancel_within h n j R =
    let E = exact h R in
    let E' = exact_step h (cancel n) (numbers_apart h R) E in
    let own : List Order = filter (mine j) (orders h) in
    let e = kept_swap (mine j) (others n) (orders h) in
    record {
      cash = λ c. abs_still (cash h j c);
      planned = λ k. abs_still (planned h j k);
      lines = λ k y. lines_any_of h E j k ∙ exists_mono (planned h j k) (planned h j k +ℤ pos 0) _ _ (abs_still (planned h j k)) (any_sub (λ o. eqb j o.portfolio && eqb k o.code) (others n) (orders h)) (sym (lines_any_of (then h (cancel n)) E' j k) ∙ y);
      open_left = λ k. subst (λ l. count (open_on k) l ≤ count (open_on k) own) (sym e) (count_fewer (open_on k) (others n) own);
      highest_of = λ k p. subst (λ l. highest p (filter (on k) l) ≤ highest p (filter (on k) own)) (sym e) (subst (λ l. highest p l ≤ highest p (filter (on k) own)) (sym (kept_swap (on k) (others n) own)) (highest_kept p (others n) (filter (on k) own)));
    }

out_within : (h : History) (p c q : ℕ) → Ruled h → below (cover (holding h p) c) (pos q) ≡ false → Within (holding (then h (deliver_out p c q)) p) (holding h p)
out_within h p c q R b =
    let E = exact h R in
    let E' = exact_step h (deliver_out p c q) (numbers_apart h R) E in
    let less : (k : ℕ) → nat_abs (planned h p k +ℤ cond (eqb p p && eqb k c) (neg_ℤ (pos q)) (pos 0)) ≤ nat_abs (planned h p k) =
    λ k. abs_taken (planned h p k) _ q (eqb p p && eqb k c) (λ y. ap (λ x. below (cover (holding h p) x) (pos q)) (eqb-true k c (and_parts (eqb p p) (eqb k c) y).1) ∙ b)
    in
    record {
      cash = λ k. abs_still (cash h p k);
      planned = less;
      lines = λ k y. lines_any_of h E p k ∙ exists_mono (planned h p k) (planned h p k +ℤ cond (eqb p p && eqb k c) (neg_ℤ (pos q)) (pos 0)) _ _ (less k) (λ t. t) (sym (lines_any_of (then h (deliver_out p c q)) E' p k) ∙ y);
      open_left = λ k. omega arith;
      highest_of = λ k x. omega arith;
    }

closed_within : (h : History) (j : ℕ) → Ruled h → is_open h j ≡ false → Within (holding h j) none_held
closed_within h j R o =
    let z = empty h j R o in
    let n = no_orders h j R o in
    let none : filter (mine j) (orders h) ≡ [] = kept_none (mine j) (orders h) n in
    record {
      cash = λ c. subst (λ x. nat_abs x ≤ 0) (sym (z.0 c)) (omega arith);
      planned = λ k. subst (λ x. nat_abs x ≤ 0) (sym (z.1 k)) (omega arith);
      lines = λ k y.
          let l : line_exists h j k ≡ true = sym (lines_any h R j k) ∙ y in
          let m : any (λ o. eqb j o.portfolio && eqb k o.code) (orders h) ≡ false = any_none _ (orders h) (All-weaker (λ o. mine j o ≡ false) (λ o. (eqb j o.portfolio && eqb k o.code) ≡ false) (λ o f. and_left _ _ f) (orders h) n) in
          let f : line_exists h j k ≡ false = ap (λ x. not (eqb (nat_abs x) 0) || any (λ o. eqb j o.portfolio && eqb k o.code) (orders h)) (z.1 k) ∙ m in
          absurd (both_ways (line_exists h j k) f l);
      open_left = λ k. subst (λ l. count (open_on k) l ≤ 0) (sym none) (omega arith);
      highest_of = λ k p. subst (λ l. highest p (filter (on k) l) ≤ p) (sym none) (omega arith);
    }

-- ---- one call
module _ (h : History) (R : Ruled h) (K : (k : ℕ) → gross_over h k ≡ false) where
  unconcerned : (c : Call) (j : ℕ) → concerns h c j ≡ false → gross_over (then h c) j ≡ false
  unconcerned c j e = ap (λ s. over_gross s (holding (then h c) j)) (sheet_left h c j (in_force h) e) ∙ ap (over_gross (in_force h)) (holding_left h c j R e) ∙ K j

  looked_at : (c : Call) (j p : ℕ) → concerns h c j ≡ eqb j p → gross_over (then h c) p ≡ false → gross_over (then h c) j ≡ false
  looked_at c j p e f = by_test (eqb j p) (λ y. ap (gross_over (then h c)) (eqb-true j p y) ∙ f) (λ n. unconcerned c j (e ∙ n))

  -- a call that moves nothing
  moved_nothing : (j : ℕ) → over_gross (in_force h) (holding (then h (figures 0)) j) ≡ false
  moved_nothing j = ap (over_gross (in_force h)) (holding_left h (figures 0) j R refl) ∙ K j

  in_new_sheet : (t : Sheet) (j : ℕ) → any (gross_over (then h (put_in_force t))) (portfolios h) ≡ false → gross_over (then h (put_in_force t)) j ≡ false
  in_new_sheet t j f =
      by_test (is_open h j)
      (λ y. let p = any_has (eqb j) (portfolios h) y in ap (gross_over (then h (put_in_force t))) (eqb-true j p.0 p.2) ∙ all-has (λ k. gross_over (then h (put_in_force t)) k ≡ false) (portfolios h) p.0 (none_any (gross_over (then h (put_in_force t))) (portfolios h) f) p.1)
      (λ n. ap (over_gross t) (holding_left h (figures 0) j R refl) ∙ over_within t (holding h j) none_held (closed_within h j R n) (none_over t))

  gross_step : (c : Call) (j : ℕ) → PassesEarlier h c → gross_over (then h c) j ≡ false
  gross_step (open_portfolio p) j P = moved_nothing j
  gross_step (pay_in p c x) j P = looked_at (pay_in p c x) j p refl P.1.1.1.0
  gross_step (pay_out p c x) j P = looked_at (pay_out p c x) j p refl P.1.1.1.0
  gross_step (deliver_in p c q) j P = looked_at (deliver_in p c q) j p refl P.1.1.1.1.0
  gross_step (deliver_out p c q) j P = looked_at (deliver_out p c q) j p refl (over_within (in_force h) _ (holding h p) (out_within h p c q R P.1.1.1.0) (K p))
  gross_step (place o) j P = looked_at (place o) j o.portfolio refl P.1.1.1.1.1.1.0
  gross_step (fill n q x) j P = looked_at (fill n q x) j (owner (standing h n)) refl P.1.1.1.1.0
  gross_step (cancel n) j P = over_within (in_force h) _ (holding h j) (cancel_within h n j R) (K j)
  gross_step (figures p) j P = moved_nothing j
  gross_step (take_notice p) j P = moved_nothing j
  gross_step (record_paper w t) j P = moved_nothing j
  gross_step (put_back w) j P = moved_nothing j
  gross_step (put_in_force t) j P = in_new_sheet t j P.1.0

pub within_limit : (h : History) → Ruled h → (j : ℕ) → gross_over h j ≡ false
within_limit (opened_with s n) R j = none_over s
within_limit (asked h c (refused n)) R j = within_limit h R.0 j
within_limit (asked h c accepted) R j = gross_step h R.0 (within_limit h R.0) c j (passed h c accepted R refl)
within_limit (asked h c (told f)) R j = gross_step h R.0 (within_limit h R.0) c j (passed h c (told f) R refl)
within_limit (asked h c (given w)) R j = gross_step h R.0 (within_limit h R.0) c j (passed h c (given w) R refl)

pub gross_kept : (h : History) → Ruled h → GrossKept h
gross_kept h R q m j =
    All-weaker (λ c. ltb gross_limit (gross (in_force q) (holding q j) c.code) ≡ false) (λ c. gross (in_force q) (holding q j) c.code ≤ gross_limit) (λ c e. ltb-false gross_limit _ e)
    (in_force q).currencies (none_any _ (in_force q).currencies (within_limit q (at_moment q m R) j))
