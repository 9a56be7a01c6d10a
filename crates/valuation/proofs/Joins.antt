-- A sum over lines, each looked up in the sheet, and the sum over the sheet's instruments that have a line.
use Rattle.std.proofs.Common.{◌≡◌, ℕ, suc, ◌<◌, Bool, true, false, cond, ◌&&◌, ◌||◌, eqb, List, [], ◌∷◌, map, length, get_or, ℤ, pos, ◌+ℤ◌, Some, filter, sym, refl, ap, ◌∙◌, ap₂, arith}
use lib.IntN.{+ℤ_idr, +ℤ_idl}
use borrow.Author.Differences.{ints}
use Rattle.std.specs.List.{AllByRecursion}
use Rattle.std.proofs.ByRecursion.{All-weaker}
use Rattle.std.proofs.lemmas.Bool.{eq-eqb, ne_eqb, eqb-true, eqb-false}
use Rattle.keyed.specs.Rows.{Rising, lookup}
use Rattle.keyed.proofs.Lookups.{rest, first}
use Rattle.margin.specs.Numbers.{total, any}
use Rattle.margin.specs.Sheets.{Apart}
use Rattle.margin.proofs.Lists.{by_test, any_none, all_both}
use Rattle.margin.proofs.Sums.{all_each, sum_same, sum_same_all, sum_kept}
use Rattle.valuation.specs.Values.{of}

eqb_sym : (a b : ℕ) (v : Bool) → eqb a b ≡ v → eqb b a ≡ v
eqb_sym a b true e = eq-eqb b a (sym (eqb-true a b e))
eqb_sym a b false e = ne_eqb b a (λ q. eqb-false a b e (sym q))

module _ {X : Type 0} where
  sum_none : (f : X → ℤ) (xs : List X) → AllByRecursion (λ x. f x ≡ pos 0) xs → total f xs ≡ pos 0
  sum_none f [] a = refl
  sum_none f (x ∷ xs) a = ap₂ ◌+ℤ◌ a.0 (sum_none f xs a.1)

  sum_plus : (f g : X → ℤ) (xs : List X) → total (λ x. f x +ℤ g x) xs ≡ total f xs +ℤ total g xs
  sum_plus f g [] = refl
  sum_plus f g (x ∷ xs) = let e = sum_plus f g xs in omega (arith, ints)

  sum_map : {Y : Type 0} (f : Y → ℤ) (g : X → Y) (xs : List X) → total f (map g xs) ≡ total (λ x. f (g x)) xs
  sum_map f g [] = refl
  sum_map f g (x ∷ xs) = ap (λ z. f (g x) +ℤ z) (sum_map f g xs)

module _ {X : Type 0} (key : X → ℕ) where
  -- at most one has the key
  single : (f : X → ℤ) (k : ℕ) (xs : List X) → Apart key xs → total (λ x. cond (eqb (key x) k) (f x) (pos 0)) xs ≡ of f (lookup key xs k)
  single f k [] a = refl
  single f k (x ∷ xs) a = by_test (eqb k (key x))
      (λ e.
      let same : k ≡ key x = eqb-true k (key x) e in
      let none : AllByRecursion (λ y. cond (eqb (key y) k) (f y) (pos 0) ≡ pos 0) xs = All-weaker _ _ (λ y h. ap (λ b. cond b (f y) (pos 0)) (eqb_sym k (key y) false (ap (λ z. eqb z (key y)) same ∙ h))) xs a.0 in
      ap₂ ◌+ℤ◌ (ap (λ b. cond b (f x) (pos 0)) (eqb_sym k (key x) true e)) (sum_none (λ y. cond (eqb (key y) k) (f y) (pos 0)) xs none) ∙ +ℤ_idr (f x) ∙ ap (λ b. of f (cond b (Some x) (lookup key xs k))) (sym e))
      (λ e.
      ap₂ ◌+ℤ◌ (ap (λ b. cond b (f x) (pos 0)) (eqb_sym k (key x) false e)) (single f k xs a.1) ∙ +ℤ_idl (of f (lookup key xs k)) ∙ ap (λ b. of f (cond b (Some x) (lookup key xs k))) (sym e))

  -- each record is what its key finds
  finds_self : (xs : List X) → Apart key xs → AllByRecursion (λ x. lookup key xs (key x) ≡ Some x) xs
  finds_self [] a = tt
  finds_self (x ∷ xs) a = (
    ap (λ b. cond b (Some x) (lookup key xs (key x))) (eq-eqb (key x) (key x) refl),
    All-weaker _ _ (λ y h. ap (λ b. cond b (Some x) (lookup key xs (key y))) (eqb_sym (key x) (key y) false h.0) ∙ h.1) xs (all_both (λ y. eqb (key x) (key y) ≡ false) (λ y. lookup key xs (key y) ≡ Some y) xs a.0 (finds_self xs a.1)),
  )

  -- what is found has the key
  of_same : (f g : X → ℤ) (k : ℕ) (xs : List X) → ((x : X) → k ≡ key x → f x ≡ g x) → of f (lookup key xs k) ≡ of g (lookup key xs k)
  of_same f g k [] h = refl
  of_same f g k (x ∷ xs) h = by_test (eqb k (key x))
      (λ e. rw e (h x (eqb-true k (key x) e)))
      (λ e. rw e (of_same f g k xs h))

  all_map : (P : ℕ → Type 0) (xs : List X) → AllByRecursion (λ x. P (key x)) xs → AllByRecursion P (map key xs)
  all_map P [] a = tt
  all_map P (x ∷ xs) a = (a.0, all_map P xs a.1)

  keys_apart : (xs : List X) → Apart key xs → Apart (λ k. k) (map key xs)
  keys_apart [] a = tt
  keys_apart (x ∷ xs) a = (all_map (λ j. eqb (key x) j ≡ false) xs a.0, keys_apart xs a.1)

split : (n k : ℕ) (ks : List ℕ) (z : ℤ) → AllByRecursion (λ j. eqb k j ≡ false) ks → cond (eqb n k || any (eqb n) ks) z (pos 0) ≡ cond (eqb n k) z (pos 0) +ℤ cond (any (eqb n) ks) z (pos 0)
split n k ks z a = by_test (eqb n k)
    (λ e.
    let same : n ≡ k = eqb-true n k e in
    let none : any (eqb n) ks ≡ false = ap (λ m. any (eqb m) ks) same ∙ any_none (eqb k) ks a in
    rw (e, none) (sym (+ℤ_idr z)))
    (λ e. rw e (sym (+ℤ_idl (cond (any (eqb n) ks) z (pos 0)))))

-- to walk keys and look each up, or to walk the list and pass what has a key
walks : {X : Type 0} (key : X → ℕ) (f : X → ℤ) (ks : List ℕ) (xs : List X) → Apart (λ k. k) ks → Apart key xs → total (λ k. of f (lookup key xs k)) ks ≡ total (λ x. cond (any (eqb (key x)) ks) (f x) (pos 0)) xs
walks key f [] xs a b = sym (sum_none (λ x. pos 0) xs (all_each _ (λ x. refl) xs))
walks key f (k ∷ ks) xs a b =
    ap₂ ◌+ℤ◌ (sym (single key f k xs b)) (walks key f ks xs a.1 b)
    ∙ sym (sum_plus (λ x. cond (eqb (key x) k) (f x) (pos 0)) (λ x. cond (any (eqb (key x)) ks) (f x) (pos 0)) xs)
    ∙ sym (sum_same (λ x. cond (eqb (key x) k || any (eqb (key x)) ks) (f x) (pos 0)) _ (λ x. split (key x) k ks (f x) a.0) xs)

both_tests : (a b : Bool) (z : ℤ) → cond b (cond a z (pos 0)) (pos 0) ≡ cond (a && b) z (pos 0)
both_tests true true z = refl
both_tests true false z = refl
both_tests false true z = refl
both_tests false false z = refl

module _ {L I : Type 0} (code : L → ℕ) (planned : L → ℤ) (key currency : I → ℕ) (v : I → ℤ → ℤ) (c : ℕ) (ls : List L) (xs : List I) (a : Apart code ls) (b : Apart key xs) where
  abbrev found : I → ℤ
  found i = cond (eqb c (currency i)) (v i (of planned (lookup code ls (key i)))) (pos 0)

  pub lines_join :
      total (λ l. of (λ i. cond (eqb c (currency i)) (v i (planned l)) (pos 0)) (lookup key xs (code l))) ls
      ≡ total (λ i. v i (of planned (lookup code ls (key i)))) (filter (λ i. eqb c (currency i) && any (eqb (key i)) (map code ls)) xs)
  lines_join =
      sum_same_all
      (λ l. of (λ i. cond (eqb c (currency i)) (v i (planned l)) (pos 0)) (lookup key xs (code l)))
      (λ l. of found (lookup key xs (code l)))
      ls
      (All-weaker _ _ (λ l self. of_same key _ _ (code l) xs (λ i e. ap (λ q. cond (eqb c (currency i)) (v i q) (pos 0)) (sym (ap (λ k. of planned (lookup code ls k)) (sym e) ∙ ap (of planned) self)))) ls (finds_self code ls a))
      ∙ sym (sum_map (λ k. of found (lookup key xs k)) code ls)
      ∙ walks key found (map code ls) xs (keys_apart code ls a) b
      ∙ sum_same _ _ (λ i. both_tests (eqb c (currency i)) (any (eqb (key i)) (map code ls)) (v i (of planned (lookup code ls (key i))))) xs
      ∙ sym (sum_kept (λ i. eqb c (currency i) && any (eqb (key i)) (map code ls)) (λ i. v i (of planned (lookup code ls (key i)))) xs)

-- ---- keys that rise are apart
all_later : {X : Type 0} (key : X → ℕ) (k : ℕ) (xs : List X) → ((i : ℕ) (d : X) → i < length xs → k < key (get_or xs i d)) → AllByRecursion (λ y. eqb k (key y) ≡ false) xs
all_later key k [] h = tt
all_later key k (y ∷ ys) h = (ne_eqb k (key y) (λ e. omega (arith, h 0 y (omega arith))), all_later key k ys (λ i x l. h (suc i) x (omega arith)))

pub rising_apart : {X : Type 0} (key : X → ℕ) (xs : List X) → Rising key xs → Apart key xs
rising_apart key [] up = tt
rising_apart key (x ∷ xs) up = (all_later key (key x) xs (λ i d l. first key x xs up i d l), rising_apart key xs (rest key x xs up))
