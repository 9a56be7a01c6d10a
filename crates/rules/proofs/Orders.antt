-- Lists of standing orders: one less filled, one cancelled.
use Rattle.std.proofs.Common.{◌≡◌, ℕ, Bool, true, false, not, ◌&&◌, eqb, ltb, List, [], ◌∷◌, is_some, Some, None, filter, Option, sym, refl, ap, ◌∙◌, subst, arith}
use Rattle.std.specs.List.{ContainsAt as Has, AllByRecursion}
use Rattle.std.proofs.ByRecursion.{All-weaker, all_kept_by}
use Rattle.std.proofs.lemmas.Bool.{both_ways, or_parts, cond_both, eqb-true}
use Rattle.margin.specs.declared.Order.{Order}
use Rattle.margin.specs.Numbers.{any, the_first}
use Rattle.margin.specs.Sheets.{Apart}
use Rattle.margin.specs.Orders.{less_filled, less, on}
use Rattle.rules.specs.Histories.{owner}
use Rattle.margin.proofs.Lists.{by_test, has_here, has_there, kept_same}

-- ---- the first
pub first_none : {X : Type 0} (t : X → Bool) (xs : List X) → is_some (the_first t xs) ≡ false → AllByRecursion (λ x. t x ≡ false) xs
first_none t [] e = tt
first_none t (x ∷ xs) e = by_test (t x) (λ y. absurd (both_ways true (rw y at e) refl)) (λ n. (n, first_none t xs (rw n at e)))

pub first_some : {X : Type 0} (t : X → Bool) (xs : List X) (x : X) → the_first t xs ≡ Some x → Has xs x × (t x ≡ true)
first_some t [] x e = let z : ◌≡◌ {A = ℕ} 0 1 = cc in absurd (omega arith)
first_some t (y ∷ xs) x e =
    by_test (t y)
    (λ b. let e' : y ≡ x = (let f : Some y ≡ Some x = rw b at e in cc) in (subst (λ z. Has (z ∷ xs) x) (sym e') (has_here x xs), ap t (sym e') ∙ b))
    (λ b. let r = first_some t xs x (rw b at e) in (has_there y x xs r.0, r.1))

pub some_is : {X : Type 0} (o : Option X) → is_some o ≡ true → (x : X) × (o ≡ Some x)
some_is None e = absurd (both_ways false refl e)
some_is (Some x) e = (x, refl)

abbrev pub num : Order → ℕ
num o = o.number

abbrev pub named : ℕ → Order → Bool
named n o = eqb n o.number

abbrev pub mine : ℕ → Order → Bool
mine j o = eqb j o.portfolio

module _ (n q : ℕ) where
  pub less_all : (P : Order → Type 0) (os : List Order) → ((o : Order) → P o → ltb q o.left ≡ true → P (less q o)) → AllByRecursion P os → AllByRecursion P (less_filled n q os)
  less_all P [] f a = tt
  less_all P (o ∷ os) f a =
      by_test (eqb n o.number)
      (λ y. rw y (cond_both (ltb q o.left) (less q o ∷ os) os (AllByRecursion P) (λ l. (f o a.0 l, a.1)) (λ _. a.1)))
      (λ x. rw x (a.0, less_all P os f a.1))

  pub less_apart : (os : List Order) → Apart num os → Apart num (less_filled n q os)
  less_apart [] a = tt
  less_apart (o ∷ os) a =
      by_test (eqb n o.number)
      (λ y. rw y (cond_both (ltb q o.left) (less q o ∷ os) os (Apart num) (λ l. a) (λ _. a.1)))
      (λ x. rw x (less_all (λ y. eqb o.number y.number ≡ false) os (λ o p l. p) a.0, less_apart os a.1))

  pub less_others : (j : ℕ) (os : List Order) → eqb j (owner (the_first (named n) os)) ≡ false → filter (mine j) (less_filled n q os) ≡ filter (mine j) os
  less_others j [] e = refl
  less_others j (o ∷ os) e =
      by_test (eqb n o.number)
      (λ y. let e' : eqb j o.portfolio ≡ false = rw y at e in rw (y, e') (by_test (ltb q o.left) (λ l. rw (l, e')) (λ l. rw l)))
      (λ x. let e' : eqb j (owner (the_first (named n) os)) ≡ false = rw x at e in rw x (by_test (eqb j o.portfolio) (λ m. rw m (ap (λ l. o ∷ l) (less_others j os e'))) (λ m. rw m (less_others j os e'))))

module _ {X : Type 0} (key : X → ℕ) where
  pub only_apart : (t : X → Bool) (xs : List X) → Apart key xs → Apart key (filter t xs)
  only_apart t [] a = tt
  only_apart t (x ∷ xs) a = cond_both (t x) (x ∷ filter t xs) (filter t xs) (Apart key) (λ _. (all_kept_by t _ xs a.0, only_apart t xs a.1)) (λ _. only_apart t xs a.1)

module _ (n : ℕ) where
  abbrev pub others : Order → Bool
  others o = not (eqb n o.number)

  -- where the first of a list with distinct numbers goes, no other does
  pub rest_kept : (o : Order) (os : List Order) → eqb n o.number ≡ true → AllByRecursion (λ y. eqb o.number y.number ≡ false) os → filter others os ≡ os
  rest_kept o os y a = kept_same others os (All-weaker (λ z. eqb o.number z.number ≡ false) (λ z. others z ≡ true) (λ z p. ap not (ap (λ m. eqb m z.number) (eqb-true n o.number y) ∙ p)) os a)

  pub cancel_others : (j : ℕ) (os : List Order) → Apart num os → eqb j (owner (the_first (named n) os)) ≡ false → filter (mine j) (filter others os) ≡ filter (mine j) os
  cancel_others j [] a e = refl
  cancel_others j (o ∷ os) a e =
      by_test (eqb n o.number)
      (λ y. let e' : eqb j o.portfolio ≡ false = rw y at e in rw (y, e') (ap (filter (mine j)) (rest_kept o os y a.0)))
      (λ x. let e' : eqb j (owner (the_first (named n) os)) ≡ false = rw x at e in rw x (by_test (eqb j o.portfolio) (λ m. rw m (ap (λ l. o ∷ l) (cancel_others j os a.1 e'))) (λ m. rw m (cancel_others j os a.1 e'))))

-- ---- the orders of one portfolio
module _ {X : Type 0} (p t : X → Bool) where
  pub first_kept : (x : X) (xs : List X) → the_first t xs ≡ Some x → p x ≡ true → the_first t (filter p xs) ≡ Some x
  first_kept x [] h k = h
  first_kept x (y ∷ ys) h k =
      by_test (t y)
      (λ b. let d : y ≡ x = (let f : Some y ≡ Some x = rw b at h in cc) in let m : p y ≡ true = ap p d ∙ k in rw (m, b) (ap Some d))
      (λ b. let r = first_kept x ys (rw b at h) k in by_test (p y) (λ m. rw (m, b) r) (λ m. rw m r))

pub less_mine : (j n q : ℕ) (o : Order) (os : List Order) → the_first (named n) os ≡ Some o → mine j o ≡ true → filter (mine j) (less_filled n q os) ≡ less_filled n q (filter (mine j) os)
less_mine j n q o [] h k = refl
less_mine j n q o (r ∷ os) h k =
    by_test (eqb n r.number)
    (λ y. let d : r ≡ o = (let f : Some r ≡ Some o = rw y at h in cc) in
    let m : eqb j r.portfolio ≡ true = ap (mine j) d ∙ k in
    rw (y, m, y) (by_test (ltb q r.left) (λ l. rw (l, m)) (λ l. rw l)))
    (λ y. let i = less_mine j n q o os (rw y at h) k in
    rw y (by_test (eqb j r.portfolio) (λ m. rw (m, y) (ap (λ l. r ∷ l) i)) (λ m. rw m i)))

pub none_mine : (code j : ℕ) (os : List Order) → any (λ o. eqb j o.portfolio && eqb code o.code) os ≡ false → any (on code) (filter (mine j) os) ≡ false
none_mine code j [] h = refl
none_mine code j (o ∷ os) h =
    let (a, b) = or_parts (eqb j o.portfolio && eqb code o.code) (any (λ o. eqb j o.portfolio && eqb code o.code) os) h in
    let r = none_mine code j os b in
    by_test (eqb j o.portfolio) (λ m. let a' : on code o ≡ false = rw m at a in rw (m, a') r) (λ m. rw m r)
