-- Of two moments under one sheet, the cover in each code closed to short sale.
use Rattle.std.proofs.Common.{◌≡◌, ℕ, ◌+◌, ◌≤◌, Bool, true, false, cond, ◌&&◌, eqb, ltb, List, [], ◌∷◌, ℤ, pos, ◌+ℤ◌, ◌-ℤ◌, neg_ℤ, ◌≤ℤ◌, Some, filter, sym, refl, ap, ◌∙◌, subst, inl, inr, arith}
use lib.Signed.{lt_z}
use Rattle.std.proofs.lemmas.Int.{ints}
use Rattle.std.proofs.lemmas.Bool.{both_ways, eqb-true, and_parts, not-false, ltb-true, ltb-false}
use Rattle.margin.specs.declared.Order.{Order}
use Rattle.margin.specs.declared.Side.{Side}
use Rattle.margin.specs.declared.Side.TheVariants.{Buy, Sell}
use Rattle.margin.specs.Numbers.{below, count, the_first}
use Rattle.margin.specs.Sheets.{Sheet}
use Rattle.margin.specs.Orders.{on, sells, signed, less_filled}
use Rattle.margin.specs.Limits.{cover, closed_to_short}
use Rattle.rules.specs.Calls.{Call, Answer, accepted, told, given, refused, done, open_portfolio, pay_in, pay_out, deliver_in, deliver_out, place, fill, cancel, figures, take_notice, record_paper, put_back, put_in_force}
use Rattle.rules.specs.Histories.{History, asked, orders, planned, in_force, standing, units_filled, holding, brings}
use Rattle.rules.specs.Rules.{then, Ruled, beyond_open, sells_uncovered}
use Rattle.rules.specs.Laws.{PassesEarlier, CoverKept, OneSheet, same, more, new_sheet, Kept}
use Rattle.margin.proofs.Integers.{not_less}
use Rattle.margin.proofs.Lists.{by_test, kept_swap}
use Rattle.margin.proofs.Sums.{count_fewer}
use Rattle.rules.proofs.Orders.{mine, named, others, some_is}
use Rattle.rules.proofs.Kept.{kept_equal, kept_along}
use Rattle.rules.proofs.Moments.{at_moment, passed}

-- what stands to be sold of a code
abbrev pub selling : ℕ → Order → ℕ
selling code o = cond (on code o && sells o.side) o.left 0

pub less_count : (n q j code : ℕ) (os : List Order) (o : Order) → the_first (named n) os ≡ Some o → q ≤ o.left → count (selling code) (filter (mine j) (less_filled n q os)) + cond (mine j o && (on code o && sells o.side)) q 0 ≡ count (selling code) (filter (mine j) os)
less_count n q j code [] o e l = let z : ◌≡◌ {A = ℕ} 0 1 = cc in absurd (omega arith)
less_count n q j code (r ∷ os) o e l =
    by_test (eqb n r.number)
    (λ y. let e' : r ≡ o = (let f : Some r ≡ Some o = rw y at e in cc) in
    let l' : q ≤ r.left = subst (λ z. q ≤ z.left) (sym e') l in
    subst (λ z. count (selling code) (filter (mine j) (less_filled n q (r ∷ os))) + cond (mine j z && (on code z && sells z.side)) q 0 ≡ count (selling code) (filter (mine j) (r ∷ os))) e'
    (rw y (by_test (mine j r)
    (λ m. by_test (on code r && sells r.side)
    (λ s. by_test (ltb q r.left) (λ k. let k' = ltb-true _ _ k in rw (m, k, m, s) (omega arith)) (λ k. let k' = ltb-false _ _ k in rw (m, k, s) (omega arith)))
    (λ s. by_test (ltb q r.left) (λ k. rw (m, k, m, s) (omega arith)) (λ k. rw (m, k, s) (omega arith))))
    (λ m. by_test (ltb q r.left) (λ k. rw (m, k, m) (omega arith)) (λ k. rw (m, k) (omega arith))))))
    (λ x. let e' : the_first (named n) os ≡ Some o = rw x at e in
    let i = less_count n q j code os o e' l in
    rw x (by_test (mine j r) (λ m. rw m (omega (arith, i))) (λ m. rw m i)))

-- ---- one call
level : (z : ℤ) (n m : ℕ) → m ≤ n → Kept (z -ℤ pos n) (z +ℤ pos 0 -ℤ pos m)
level z n m l = inr (omega (arith, ints))

delivered : (z : ℤ) (n q : ℕ) (t : Bool) → Kept (z -ℤ pos n) (z +ℤ cond t (pos q) (pos 0) -ℤ pos n)
delivered z n q true = inr (omega (arith, ints))
delivered z n q false = inr (omega (arith, ints))

taken : (z : ℤ) (n q : ℕ) (t : Bool) → (t ≡ true → lt_z (z -ℤ pos n) (pos q) ≡ false) → Kept (z -ℤ pos n) (z +ℤ cond t (neg_ℤ (pos q)) (pos 0) -ℤ pos n)
taken z n q true f = let l : pos q ≤ℤ (z -ℤ pos n) = not_less (z -ℤ pos n) (pos q) (f refl) in inl (omega (arith, ints))
taken z n q false f = inr (omega (arith, ints))

filled_by : (z : ℤ) (n m q : ℕ) (d : Side) (x y : Bool) → m + cond (x && (y && sells d)) q 0 ≡ n → Kept (z -ℤ pos n) (z +ℤ cond (x && y) (signed d (pos q)) (pos 0) -ℤ pos m)
filled_by z n m q Buy true true e = inr (omega (arith, ints))
filled_by z n m q Buy true false e = inr (omega (arith, ints))
filled_by z n m q Buy false y e = inr (omega (arith, ints))
filled_by z n m q Sell true true e = inr (omega (arith, ints))
filled_by z n m q Sell true false e = inr (omega (arith, ints))
filled_by z n m q Sell false y e = inr (omega (arith, ints))

abbrev CoverStep : History → Call → ℕ → ℕ → Type 0
CoverStep h c j code = Kept (cover (holding h j) code) (cover (holding (then h c) j) code)

stands : (h : History) (j code : ℕ) → Kept (cover (holding h j) code) (planned h j code +ℤ pos 0 -ℤ pos (count (selling code) (filter (mine j) (orders h))))
stands h j code = level (planned h j code) _ _ (omega arith)

-- an order of another portfolio or code, or a buy, leaves it; a sell leaves it nought or more
placed : (h : History) (o : Order) (j code : ℕ) → sells_uncovered h o ≡ false → closed_to_short (in_force h) code ≡ true → CoverStep h (place o) j code
placed h o j code u s =
    by_test (mine j o)
    (λ m. by_test (on code o && sells o.side)
    (λ y.
    let p = and_parts (on code o) (sells o.side) y in
    let c = eqb-true code o.code p.0 in
    let i = eqb-true j o.portfolio m in
    let s' : closed_to_short (in_force h) o.code ≡ true = subst (λ k. closed_to_short (in_force h) k ≡ true) c s in
    let u' : below (cover (holding (then h (place o)) o.portfolio) o.code) (pos 0) ≡ false =
    ap (λ v. v && below (cover (holding (then h (place o)) o.portfolio) o.code) (pos 0)) (sym (ap (λ v. sells o.side && v) s' ∙ ap (λ v. v && true) p.1)) ∙ u
    in
    inl (subst (λ k. pos 0 ≤ℤ cover (holding (then h (place o)) j) k) (sym c) (subst (λ k. pos 0 ≤ℤ cover (holding (then h (place o)) k) o.code) (sym i) (not_less _ _ u'))))
    (λ n. rw (m, n) (level (planned h j code) _ _ (omega arith))))
    (λ n. rw n (level (planned h j code) _ _ (omega arith)))

filled_one : (h : History) (n q x j code : ℕ) (o : Order) → standing h n ≡ Some o → beyond_open (standing h n) q ≡ false → CoverStep h (fill n q x) j code
filled_one h n q x j code o e b =
    let b' : ltb o.left q ≡ false = ap (λ s. beyond_open s q) (sym e) ∙ b in
    let k = less_count n q j code (orders h) o e (ltb-false _ _ b') in
    subst (λ s. Kept (cover (holding h j) code) (planned h j code +ℤ units_filled s q j code -ℤ pos (count (selling code) (filter (mine j) (less_filled n q (orders h)))))) (sym e)
    (filled_by (planned h j code) _ _ q o.side (mine j o) (on code o) k)

cover_step : (h : History) (c : Call) (a : Answer) (j code : ℕ) → PassesEarlier h c → done a ≡ true → new_sheet c a ≡ false → closed_to_short (in_force h) code ≡ true → CoverStep h c j code
cover_step h (open_portfolio p) a j code P d n s = stands h j code
cover_step h (pay_in p c x) a j code P d n s = stands h j code
cover_step h (pay_out p c x) a j code P d n s = stands h j code
cover_step h (deliver_in p c q) a j code P d n s = delivered (planned h j code) _ q (eqb j p && eqb code c)
cover_step h (deliver_out p c q) a j code P d n s =
    taken (planned h j code) _ q (eqb j p && eqb code c)
    (λ y. let e = and_parts (eqb j p) (eqb code c) y in
    ap (λ k. below (cover (holding h k) code) (pos q)) (eqb-true j p e.0) ∙ ap (λ k. below (cover (holding h p) k) (pos q)) (eqb-true code c e.1) ∙ P.1.1.1.0)
cover_step h (place o) a j code P d n s = placed h o j code P.1.1.1.1.0 s
cover_step h (fill m q x) a j code P d n s = let o = some_is (standing h m) (not-false _ P.1.0) in filled_one h m q x j code o.0 o.1 P.1.1.0
cover_step h (cancel m) a j code P d n s =
    let l : count (selling code) (filter (mine j) (filter (others m) (orders h))) ≤ count (selling code) (filter (mine j) (orders h)) =
    subst (λ l. count (selling code) l ≤ count (selling code) (filter (mine j) (orders h))) (sym (kept_swap (mine j) (others m) (orders h))) (count_fewer (selling code) (others m) (filter (mine j) (orders h)))
    in
    level (planned h j code) _ _ l
cover_step h (figures p) a j code P d n s = stands h j code
cover_step h (take_notice p) a j code P d n s = stands h j code
cover_step h (record_paper w t) a j code P d n s = stands h j code
cover_step h (put_back w) a j code P d n s = stands h j code
cover_step h (put_in_force t) a j code P d n s = absurd (both_ways (done a) n d)

brings_same : (c : Call) (a : Answer) (s : Sheet) → done a ≡ true → new_sheet c a ≡ false → brings c s ≡ s
brings_same (open_portfolio p) a s d n = refl
brings_same (pay_in p c x) a s d n = refl
brings_same (pay_out p c x) a s d n = refl
brings_same (deliver_in p c q) a s d n = refl
brings_same (deliver_out p c q) a s d n = refl
brings_same (place o) a s d n = refl
brings_same (fill m q x) a s d n = refl
brings_same (cancel m) a s d n = refl
brings_same (figures p) a s d n = refl
brings_same (take_notice p) a s d n = refl
brings_same (record_paper w t) a s d n = refl
brings_same (put_back w) a s d n = refl
brings_same (put_in_force t) a s d n = absurd (both_ways (done a) n d)

pub sheet_same : (h : History) (c : Call) (a : Answer) → new_sheet c a ≡ false → in_force (asked h c a) ≡ in_force h
sheet_same h c (refused k) n = refl
sheet_same h c accepted n = brings_same c accepted (in_force h) refl n
sheet_same h c (told f) n = brings_same c (told f) (in_force h) refl n
sheet_same h c (given w) n = brings_same c (given w) (in_force h) refl n

one_step : (h : History) (c : Call) (a : Answer) (j code : ℕ) → Ruled (asked h c a) → new_sheet c a ≡ false → closed_to_short (in_force h) code ≡ true → Kept (cover (holding h j) code) (cover (holding (asked h c a) j) code)
one_step h c (refused k) j code R n s = kept_equal _ _ refl
one_step h c accepted j code R n s = cover_step h c accepted j code (passed h c accepted R refl) refl n s
one_step h c (told f) j code R n s = cover_step h c (told f) j code (passed h c (told f) R refl) refl n s
one_step h c (given w) j code R n s = cover_step h c (given w) j code (passed h c (given w) R refl) refl n s

between : (p : History) {q : History} → OneSheet p q → Ruled q → (j code : ℕ) → closed_to_short (in_force q) code ≡ true → Kept (cover (holding p j) code) (cover (holding q j) code)
between p same R j code s = kept_equal _ _ refl
between p (more {q = q} {c = c} {a = a} o n) R j code s =
    let s' : closed_to_short (in_force q) code ≡ true = ap (λ t. closed_to_short t code) (sym (sheet_same q c a n)) ∙ s in
    kept_along _ _ _ (between p o R.0 j code s') (one_step q c a j code R n s')

pub cover_kept : (h : History) → Ruled h → CoverKept h
cover_kept h R p q o m j code s = between p o (at_moment q m R) j code s
