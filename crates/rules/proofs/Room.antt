-- No more is kept than there are places for.
use Rattle.std.proofs.Common.{◌≡◌, ℕ, ◌+◌, ◌<◌, ◌≤◌, Bool, true, false, not, ◌||◌, eqb, ltb, ◌⊎◌, List, [], ◌∷◌, ◌++◌, length, ℤ, pos, ◌-ℤ◌, nat_abs, ◌≤ℤ◌, Some, filter, refl, ap, ◌∙◌, inl, inr, ⊎_elim, arith, length-append}
use lib.Signed.{lt_z}
use borrow.Author.Differences.{abs_is}
use Rattle.std.specs.List.{ContainsAt as Has}
use Rattle.std.proofs.lemmas.Int.{ints}
use Rattle.std.proofs.lemmas.Bool.{leb-false, and_cases, or_parts, or_left, or_right, not-false, not_from_false, ne_eqb, ltb-false}
use Rattle.margin.specs.declared.Order.{Order}
use Rattle.margin.specs.Numbers.{any}
use Rattle.margin.specs.Orders.{less_filled}
use Rattle.rules.specs.Calls.{Call, open_portfolio, pay_in, pay_out, deliver_in, deliver_out, place, fill, cancel, figures, take_notice, record_paper, put_back, put_in_force, accepted, told, given, refused}
use Rattle.rules.specs.Histories.{History, opened_with, asked, places, portfolios, orders, standing, planned, lines, Spot, spot_of, touches, same_spot, line_exists, journal}
use Rattle.rules.specs.Rules.{no_place_for_order, then, Ruled, no_place_for_line}
use Rattle.rules.specs.Laws.{PassesEarlier, Placed, WithinPlaces}
use Rattle.margin.proofs.Integers.{not_less}
use Rattle.margin.proofs.Lists.{by_test, has_none, has_cases, has_any}
use Rattle.rules.proofs.Orders.{named, others, some_is, first_some}
use Rattle.rules.proofs.Lines.{exists, exact, at_spot, same_itself}
use Rattle.rules.proofs.Moments.{at_moment, passed}

module _ {X : Type 0} (t : X → Bool) where
  kept_length : (xs : List X) → length (filter t xs) ≤ length xs
  kept_length [] = omega arith
  kept_length (x ∷ xs) = let r = kept_length xs in by_test (t x) (λ y. rw y (omega arith)) (λ n. rw n (omega arith))

  -- one that fails the test is left out
  kept_shorter : (x : X) (xs : List X) → Has xs x → t x ≡ false → length (filter t xs) + 1 ≤ length xs
  kept_shorter x [] h e = absurd (has_none x h)
  kept_shorter x (y ∷ xs) h e =
      ⊎_elim
      (λ s. let f : t y ≡ false = ap t s ∙ e in let r = kept_length xs in rw f (omega arith))
      (λ h'. let r = kept_shorter x xs h' e in by_test (t y) (λ a. rw a (omega arith)) (λ a. rw a (omega arith)))
      (has_cases y x xs h)

less_length : (n q : ℕ) (os : List Order) → length (less_filled n q os) ≤ length os
less_length n q [] = omega arith
less_length n q (o ∷ os) =
    let r = less_length n q os in
    by_test (eqb n o.number) (λ y. rw y (by_test (ltb q o.left) (λ l. rw l (omega arith)) (λ l. rw l (omega arith)))) (λ y. rw y (omega arith))

-- ---- the line that a call touches is there already, or there is room for one more
module _ (h : History) (c : Call) (R : Ruled h) where
  touched : (b : Spot) → touches h c ≡ b ∷ [] → (exists h b ≡ true) ⊎ (length (lines h) < (places h).lines) → length (lines h) ≤ (places h).lines → length (lines (then h c)) ≤ (places h).lines
  touched b e w l =
      let free : Spot → Bool = λ d. not (any (same_spot d) (touches h c)) in
      let after : length (lines (then h c)) ≤ length (touches h c ++ filter free (lines h)) = kept_length (exists (then h c)) (touches h c ++ filter free (lines h)) in
      let sum : length (touches h c ++ filter free (lines h)) ≡ length (touches h c) + length (filter free (lines h)) = length-append (touches h c) (filter free (lines h)) in
      let one : length (touches h c) ≡ 1 = ap length e in
      ⊎_elim
      (λ x. let f : free b ≡ false = ap not (ap (any (same_spot b)) e ∙ or_left _ false (same_itself b)) in
      let k : length (filter free (lines h)) + 1 ≤ length (lines h) = kept_shorter free b (lines h) ((exact h R b).1 x) f in omega arith)
      (λ y. let k : length (filter free (lines h)) ≤ length (lines h) = kept_length free (lines h) in omega arith)
      w

  untouched : touches h c ≡ [] → length (lines h) ≤ (places h).lines → length (lines (then h c)) ≤ (places h).lines
  untouched e l =
      let free : Spot → Bool = λ d. not (any (same_spot d) (touches h c)) in
      let after : length (lines (then h c)) ≤ length (touches h c ++ filter free (lines h)) = kept_length (exists (then h c)) (touches h c ++ filter free (lines h)) in
      let sum : length (touches h c ++ filter free (lines h)) ≡ length (filter free (lines h)) = ap (λ l. length (l ++ filter free (lines h))) e in
      let k : length (filter free (lines h)) ≤ length (lines h) = kept_length free (lines h) in
      omega arith

line_room : (h : History) (p c : ℕ) → no_place_for_line h p c ≡ false → (line_exists h p c ≡ true) ⊎ (length (lines h) < (places h).lines)
line_room h p c e = ⊎_elim (λ a. inl (not-false _ a)) (λ b. inr (leb-false _ _ b)) (and_cases _ _ e)

-- an order that stands has its line, and what can be delivered out is held
standing_there : (h : History) (n : ℕ) (o : Order) → standing h n ≡ Some o → exists h record { portfolio = o.portfolio; code = o.code } ≡ true
standing_there h n o e =
    let b : Spot = record { portfolio = o.portfolio; code = o.code } in
    or_right _ _ (has_any (at_spot b) (orders h) o (first_some (named n) (orders h) o e).0 (same_itself b))

held_there : (z : ℤ) (n q : ℕ) (b : Bool) → 1 ≤ q → lt_z (z -ℤ pos n) (pos q) ≡ false → (not (eqb (nat_abs z) 0) || b) ≡ true
held_there z n q b l e =
    let k : pos q ≤ℤ (z -ℤ pos n) = not_less (z -ℤ pos n) (pos q) e in
    or_left _ b (not_from_false _ (ne_eqb (nat_abs z) 0 (λ s. omega (arith, ints, abs_is z))))

lines_step : (h : History) (c : Call) → Ruled h → PassesEarlier h c → length (lines h) ≤ (places h).lines → length (lines (then h c)) ≤ (places h).lines
lines_step h (deliver_in p c q) R P l = touched h (deliver_in p c q) R record { portfolio = p; code = c } refl (line_room h p c P.1.1.1.0) l
lines_step h (deliver_out p c q) R P l =
    let some : 1 ≤ q = ltb-false q 1 (or_parts _ _ (or_parts _ _ P.0).1).0 in
    touched h (deliver_out p c q) R record { portfolio = p; code = c } refl (inl (held_there (planned h p c) _ q _ some P.1.1.1.0)) l
lines_step h (place o) R P l = touched h (place o) R record { portfolio = o.portfolio; code = o.code } refl (line_room h o.portfolio o.code (or_parts _ _ P.1.1.1.1.1.0).1) l
lines_step h (fill n q x) R P l =
    let (o, e) = some_is (standing h n) (not-false _ P.1.0) in
    touched h (fill n q x) R record { portfolio = o.portfolio; code = o.code } (ap spot_of e) (inl (standing_there h n o e)) l
lines_step h (cancel n) R P l =
    let (o, e) = some_is (standing h n) (not-false _ P.1.0) in
    touched h (cancel n) R record { portfolio = o.portfolio; code = o.code } (ap spot_of e) (inl (standing_there h n o e)) l
lines_step h (open_portfolio p) R P l = untouched h (open_portfolio p) R refl l
lines_step h (pay_in p c x) R P l = untouched h (pay_in p c x) R refl l
lines_step h (pay_out p c x) R P l = untouched h (pay_out p c x) R refl l
lines_step h (figures p) R P l = untouched h (figures p) R refl l
lines_step h (take_notice p) R P l = untouched h (take_notice p) R refl l
lines_step h (record_paper w t) R P l = untouched h (record_paper w t) R refl l
lines_step h (put_back w) R P l = untouched h (put_back w) R refl l
lines_step h (put_in_force t) R P l = untouched h (put_in_force t) R refl l

-- ---- portfolios, orders and the journal
module _ (h : History) (D : Placed h) where
  others_step : (c : Call) → PassesEarlier h c →
      (length (portfolios (then h c)) ≤ (places h).portfolios) × (length (orders (then h c)) ≤ (places h).orders) × (length (journal (then h c)) ≤ (places h).journal)
  others_step (open_portfolio p) P = (let k = leb-false (places h).portfolios (length (portfolios h)) P.1.1.0 in omega arith, D.orders_placed, D.journal_placed)
  others_step (place o) P = (D.portfolios_placed, (let k = leb-false (places h).orders (length (orders h)) (or_parts (no_place_for_order h) _ P.1.1.1.1.1.0).0 in omega arith), D.journal_placed)
  others_step (fill n q x) P = (D.portfolios_placed, omega (arith, less_length n q (orders h), D.orders_placed), D.journal_placed)
  others_step (cancel n) P = (D.portfolios_placed, omega (arith, kept_length (others n) (orders h), D.orders_placed), D.journal_placed)
  others_step (record_paper w t) P = (D.portfolios_placed, D.orders_placed, (let k = leb-false (places h).journal (length (journal h)) P.1.0 in let e = length-append (journal h) (record { serial = length (journal h) + 1; portfolio = w.portfolio; notice = w.notice; time = t } ∷ []) in omega arith))
  others_step (pay_in p c x) P = (D.portfolios_placed, D.orders_placed, D.journal_placed)
  others_step (pay_out p c x) P = (D.portfolios_placed, D.orders_placed, D.journal_placed)
  others_step (deliver_in p c q) P = (D.portfolios_placed, D.orders_placed, D.journal_placed)
  others_step (deliver_out p c q) P = (D.portfolios_placed, D.orders_placed, D.journal_placed)
  others_step (figures p) P = (D.portfolios_placed, D.orders_placed, D.journal_placed)
  others_step (take_notice p) P = (D.portfolios_placed, D.orders_placed, D.journal_placed)
  others_step (put_back w) P = (D.portfolios_placed, D.orders_placed, D.journal_placed)
  others_step (put_in_force t) P = (D.portfolios_placed, D.orders_placed, D.journal_placed)

step : (h : History) (c : Call) → Ruled h → PassesEarlier h c → Placed h → Placed (then h c)
step h c R P D =
    let (a, b, d) = others_step h D c P in
    record { portfolios_placed = a; lines_placed = lines_step h c R P D.lines_placed; orders_placed = b; journal_placed = d }

placed : (h : History) → Ruled h → Placed h
placed (opened_with s n) R = record { portfolios_placed = omega arith; lines_placed = omega arith; orders_placed = omega arith; journal_placed = omega arith }
placed (asked h c (refused n)) R = let D = placed h R.0 in record { portfolios_placed = D.portfolios_placed; lines_placed = D.lines_placed; orders_placed = D.orders_placed; journal_placed = D.journal_placed }
placed (asked h c accepted) R = step h c R.0 (passed h c accepted R refl) (placed h R.0)
placed (asked h c (told f)) R = let D = step h c R.0 (passed h c (told f) R refl) (placed h R.0) in record { portfolios_placed = D.portfolios_placed; lines_placed = D.lines_placed; orders_placed = D.orders_placed; journal_placed = D.journal_placed }
placed (asked h c (given w)) R = let D = step h c R.0 (passed h c (given w) R refl) (placed h R.0) in record { portfolios_placed = D.portfolios_placed; lines_placed = D.lines_placed; orders_placed = D.orders_placed; journal_placed = D.journal_placed }

pub within_places : (h : History) → Ruled h → WithinPlaces h
within_places h R q m = placed q (at_moment q m R)
