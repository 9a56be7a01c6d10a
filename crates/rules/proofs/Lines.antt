-- The lines are those that exist, each once.
use Rattle.std.proofs.Common.{◌≡◌, ℕ, Bool, true, false, not, ◌&&◌, ◌||◌, eqb, ltb, ◌↔◌, List, [], ◌∷◌, ◌++◌, ℤ, pos, nat_abs, Some, None, filter, Option, sym, refl, ap, ◌∙◌, subst, arith}
use Rattle.std.specs.List.{ContainsAt as Has, AllByRecursion}
use Rattle.std.proofs.ByRecursion.{All-weaker, all-has, All-append, has_append_left, has_append_right, all_kept_by, kept_by_passes}
use Rattle.std.proofs.lemmas.Bool.{cond_both, both_ways, eqb-true, eq-eqb, or_parts, or_right, and_parts, and_from, not-true}
use Rattle.margin.specs.declared.Order.{Order}
use Rattle.margin.specs.Numbers.{any, the_first}
use Rattle.margin.specs.Sheets.{Apart}
use Rattle.margin.specs.Orders.{less_filled, less}
use Rattle.rules.specs.Calls.{Call, accepted, told, given, refused, open_portfolio, pay_in, pay_out, deliver_in, deliver_out, place, fill, cancel, figures, take_notice, record_paper, put_back, put_in_force}
use Rattle.rules.specs.Histories.{History, opened_with, asked, orders, standing, delivers, units_filled, touches, spot_of, Spot, same_spot, reorders, lines, line_exists, codes, holding}
use Rattle.rules.specs.Rules.{then, Ruled}
use Rattle.rules.specs.Laws.{OrdersSound, Once}
use Rattle.margin.proofs.Integers.{add_nought}
use Rattle.margin.proofs.Lists.{all_from_has, by_test, any_has, has_any, has_kept}
use Rattle.rules.proofs.Orders.{num, named, others, rest_kept}
use Rattle.rules.proofs.Moments.{at_moment}
use Rattle.rules.proofs.Standing.{orders_good, Good, numbers_apart}

-- ---- an order on a spot
abbrev pub at_spot : Spot → Order → Bool
at_spot b o = eqb b.portfolio o.portfolio && eqb b.code o.code

module _ (t : Order → Bool) (n : ℕ) where
  pub less_any : (q : ℕ) (os : List Order) → ((o : Order) → t (less q o) ≡ t o) → ((o : Order) → the_first (named n) os ≡ Some o → t o ≡ false) → any t (less_filled n q os) ≡ any t os
  less_any q [] s f = refl
  less_any q (o ∷ os) s f =
      by_test (eqb n o.number)
      (λ y. let g : t o ≡ false = f o (rw y) in let g' : t (less q o) ≡ false = s o ∙ g in rw (y, g) (by_test (ltb q o.left) (λ l. rw (l, g')) (λ l. rw l)))
      (λ x. rw x (ap (λ v. t o || v) (less_any q os s (λ r e. f r (rw x e)))))

  pub cancel_any : (os : List Order) → Apart num os → ((o : Order) → the_first (named n) os ≡ Some o → t o ≡ false) → any t (filter (others n) os) ≡ any t os
  cancel_any [] a f = refl
  cancel_any (o ∷ os) a f =
      by_test (eqb n o.number)
      (λ y. let g : t o ≡ false = f o (rw y) in rw (y, g) (ap (any t) (rest_kept n o os y a.0)))
      (λ x. rw x (ap (λ v. t o || v) (cancel_any os a.1 (λ r e. f r (rw x e)))))

spot_none : (s : Option Order) (b : Spot) → any (same_spot b) (spot_of s) ≡ false → (o : Order) → s ≡ Some o → at_spot b o ≡ false
spot_none None b e o p = let z : ◌≡◌ {A = ℕ} 0 1 = cc in absurd (omega arith)
spot_none (Some r) b e o p = let w : r ≡ o = cc in ap (at_spot b) (sym w) ∙ (or_parts (at_spot b r) false e).0

units_none : (s : Option Order) (q : ℕ) (b : Spot) → any (same_spot b) (spot_of s) ≡ false → units_filled s q b.portfolio b.code ≡ pos 0
units_none None q b e = refl
units_none (Some o) q b e = let f : at_spot b o ≡ false = (or_parts (at_spot b o) false e).0 in rw f

-- ---- away from what a call touches, nothing changes
delivers_none : (h : History) (c : Call) (b : Spot) → any (same_spot b) (touches h c) ≡ false → delivers h c b.portfolio b.code ≡ pos 0
delivers_none h (open_portfolio p) b e = refl
delivers_none h (pay_in p c x) b e = refl
delivers_none h (pay_out p c x) b e = refl
delivers_none h (deliver_in p c q) b e = let f : same_spot b record { portfolio = p; code = c } ≡ false = (or_parts (same_spot b record { portfolio = p; code = c }) false e).0 in rw f
delivers_none h (deliver_out p c q) b e = let f : same_spot b record { portfolio = p; code = c } ≡ false = (or_parts (same_spot b record { portfolio = p; code = c }) false e).0 in rw f
delivers_none h (place o) b e = refl
delivers_none h (fill n q x) b e = units_none (standing h n) q b e
delivers_none h (cancel n) b e = refl
delivers_none h (figures p) b e = refl
delivers_none h (take_notice p) b e = refl
delivers_none h (record_paper w t) b e = refl
delivers_none h (put_back w) b e = refl
delivers_none h (put_in_force t) b e = refl

orders_none : (h : History) (c : Call) (b : Spot) → Apart num (orders h) → any (same_spot b) (touches h c) ≡ false → any (at_spot b) (reorders c (orders h)) ≡ any (at_spot b) (orders h)
orders_none h (open_portfolio p) b a e = refl
orders_none h (pay_in p c x) b a e = refl
orders_none h (pay_out p c x) b a e = refl
orders_none h (deliver_in p c q) b a e = refl
orders_none h (deliver_out p c q) b a e = refl
orders_none h (place o) b a e = ap (λ v. v || any (at_spot b) (orders h)) (or_parts (at_spot b o) false e).0
orders_none h (fill n q x) b a e = less_any (at_spot b) n q (orders h) (λ o. refl) (spot_none (standing h n) b e)
orders_none h (cancel n) b a e = cancel_any (at_spot b) n (orders h) a (spot_none (standing h n) b e)
orders_none h (figures p) b a e = refl
orders_none h (take_notice p) b a e = refl
orders_none h (record_paper w t) b a e = refl
orders_none h (put_back w) b a e = refl
orders_none h (put_in_force t) b a e = refl

abbrev pub exists : History → Spot → Bool
exists h b = line_exists h b.portfolio b.code

pub line_same : (z z' : ℤ) (b b' : Bool) → z' ≡ z → b' ≡ b → (not (eqb (nat_abs z') 0) || b') ≡ (not (eqb (nat_abs z) 0) || b)
line_same z z' b b' e f = rw (e, f)

pub exists_left : (h : History) (c : Call) (b : Spot) → Apart num (orders h) → any (same_spot b) (touches h c) ≡ false → exists (then h c) b ≡ exists h b
exists_left h c b a e = line_same _ _ _ _ (add_nought _ _ (delivers_none h c b e)) (orders_none h c b a e)

-- ---- exactly those that exist
abbrev pub Exact : History → Type 0
Exact h = (b : Spot) → Has (lines h) b ↔ (exists h b ≡ true)

pub spot_is : (b d : Spot) → same_spot b d ≡ true → b ≡ d
spot_is b d e = let p = and_parts _ _ e in let x = eqb-true _ _ p.0 in let y = eqb-true _ _ p.1 in λ i. record { portfolio = x i; code = y i }

pub exact_step : (h : History) (c : Call) → Apart num (orders h) → Exact h → Exact (then h c)
exact_step h c a E b =
    let T : List Spot = touches h c in
    let free : Spot → Bool = λ d. not (any (same_spot d) T) in
    let all : List Spot = T ++ filter free (lines h) in (
      λ m. all-has (λ d. exists (then h c) d ≡ true) (filter (exists (then h c)) all) b (kept_by_passes (exists (then h c)) all) m,
      λ e. has_kept (exists (then h c)) all b (
          by_test (any (same_spot b) T)
          (λ y. let p = any_has (same_spot b) T y in has_append_left T (filter free (lines h)) b (subst (Has T) (sym (spot_is b p.0 p.2)) p.1))
          (λ n. has_append_right T (filter free (lines h)) b (has_kept free (lines h) b ((E b).1 (sym (exists_left h c b a n) ∙ e)) (ap not n)))
          ) e,
    )

pub exact : (h : History) → Ruled h → Exact h
exact (opened_with s n) R b = (λ m. absurd (omega (arith, m.1)), λ e. absurd (both_ways false refl e))
exact (asked h c (refused n)) R b = exact h R.0 b
exact (asked h c accepted) R b = exact_step h c (numbers_apart h R.0) (exact h R.0) b
exact (asked h c (told f)) R b = exact_step h c (numbers_apart h R.0) (exact h R.0) b
exact (asked h c (given w)) R b = exact_step h c (numbers_apart h R.0) (exact h R.0) b

-- ---- what a portfolio's lines are
pub codes_any : (j code : ℕ) (bs : List Spot) → any (eqb code) (codes (filter (λ b. eqb j b.portfolio) bs)) ≡ any (same_spot record { portfolio = j; code = code }) bs
codes_any j code [] = refl
codes_any j code (b ∷ bs) = by_test (eqb j b.portfolio) (λ y. rw y (ap (λ v. eqb code b.code || v) (codes_any j code bs))) (λ n. rw n (codes_any j code bs))

pub same_truth : (x y : Bool) → (x ≡ true → y ≡ true) → (y ≡ true → x ≡ true) → x ≡ y
same_truth x true f g = g refl
same_truth true false f g = sym (f refl)
same_truth false false f g = refl

pub same_itself : (b : Spot) → same_spot b b ≡ true
same_itself b = and_from _ _ (eq-eqb b.portfolio b.portfolio refl) (eq-eqb b.code b.code refl)

-- a code is among a portfolio's lines exactly where that line exists
pub lines_any_of : (h : History) → Exact h → (j code : ℕ) → any (eqb code) (holding h j).lines ≡ line_exists h j code
lines_any_of h E j code =
    let b : Spot = record { portfolio = j; code = code } in
    codes_any j code (lines h) ∙ same_truth _ _
    (λ e. let p = any_has (same_spot b) (lines h) e in ap (exists h) (spot_is b p.0 p.2) ∙ (E p.0).0 p.1)
    (λ e. has_any (same_spot b) (lines h) b ((E b).1 e) (same_itself b))

pub lines_any : (h : History) → Ruled h → (j code : ℕ) → any (eqb code) (holding h j).lines ≡ line_exists h j code
lines_any h R j code = lines_any_of h (exact h R) j code

-- every standing order has its line
pub order_has_line : (h : History) → Ruled h → (o : Order) → Has (orders h) o → Has (lines h) record { portfolio = o.portfolio; code = o.code }
order_has_line h R o m =
    let b : Spot = record { portfolio = o.portfolio; code = o.code } in
    (exact h R b).1 (or_right _ _ (has_any (at_spot b) (orders h) o m (same_itself b)))

-- ---- each once
only_once : (t : Spot → Bool) (bs : List Spot) → Once bs → Once (filter t bs)
only_once t [] a = tt
only_once t (b ∷ bs) a = cond_both (t b) (b ∷ filter t bs) (filter t bs) Once (λ _. (all_kept_by t _ bs a.0, only_once t bs a.1)) (λ _. only_once t bs a.1)

same_turned : (b d : Spot) → same_spot b d ≡ false → same_spot d b ≡ false
same_turned b d e = by_test (same_spot d b) (λ y. absurd (both_ways (same_spot b d) e (ap (λ x. same_spot b x) (spot_is d b y) ∙ same_itself b))) (λ n. n)

append_once : (xs ys : List Spot) → Once xs → Once ys → AllByRecursion (λ y. any (same_spot y) xs ≡ false) ys → Once (xs ++ ys)
append_once [] ys a b f = b
append_once (x ∷ xs) ys a b f = (
  All-append (λ d. same_spot x d ≡ false) xs ys a.0 (All-weaker _ (λ d. same_spot x d ≡ false) (λ y e. same_turned y x (or_parts (same_spot y x) (any (same_spot y) xs) e).0) ys f),
  append_once xs ys a.1 b (All-weaker _ (λ y. any (same_spot y) xs ≡ false) (λ y e. (or_parts (same_spot y x) (any (same_spot y) xs) e).1) ys f),
)

spot_once : (s : Option Order) → Once (spot_of s)
spot_once None = tt
spot_once (Some o) = (tt, tt)

touches_once : (h : History) (c : Call) → Once (touches h c)
touches_once h (open_portfolio p) = tt
touches_once h (pay_in p c x) = tt
touches_once h (pay_out p c x) = tt
touches_once h (deliver_in p c q) = (tt, tt)
touches_once h (deliver_out p c q) = (tt, tt)
touches_once h (place o) = (tt, tt)
touches_once h (fill n q x) = spot_once (standing h n)
touches_once h (cancel n) = spot_once (standing h n)
touches_once h (figures p) = tt
touches_once h (take_notice p) = tt
touches_once h (record_paper w t) = tt
touches_once h (put_back w) = tt
touches_once h (put_in_force t) = tt

once_step : (h : History) (c : Call) → Once (lines h) → Once (lines (then h c))
once_step h c a =
    let free : Spot → Bool = λ d. not (any (same_spot d) (touches h c)) in
    only_once _ _ (append_once (touches h c) (filter free (lines h)) (touches_once h c) (only_once free (lines h) a) (All-weaker (λ d. free d ≡ true) (λ d. any (same_spot d) (touches h c) ≡ false) (λ d e. not-true _ e) _ (kept_by_passes free (lines h))))

pub lines_once : (h : History) → Once (lines h)
lines_once (opened_with s n) = tt
lines_once (asked h c (refused n)) = lines_once h
lines_once (asked h c accepted) = once_step h c (lines_once h)
lines_once (asked h c (told f)) = once_step h c (lines_once h)
lines_once (asked h c (given w)) = once_step h c (lines_once h)

-- ---- standing orders, with their lines
pub orders_sound : (h : History) → Ruled h → OrdersSound h
orders_sound h R q m =
    let R' = at_moment q m R in
    let good = orders_good q R' in
    record {
      numbers_distinct = numbers_apart q R';
      of_open_portfolios = All-weaker (Good q) _ (λ o g. g.0) (orders q) good;
      something_left = All-weaker (Good q) _ (λ o g. g.1) (orders q) good;
      each_has_its_line = all_from_has _ (orders q) (order_has_line q R');
    }
