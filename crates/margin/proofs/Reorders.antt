-- Sums, tests and searches over the same elements in another order.
use Rattle.std.proofs.Common.{◌≡◌, ℕ, ◌+◌, max, Bool, true, false, cond, ◌||◌, eqb, List, ℤ, ◌+ℤ◌, Some, Option, sym, refl, ap, ◌∙◌, arith}
use Rattle.std.proofs.lemmas.Int.{ints}
use Rattle.std.proofs.lemmas.Bool.{eqb-false, ne_eqb}
use Rattle.keyed.specs.Reordered.{Reordered, nothing, keeping, swapping, again}
use Rattle.keyed.proofs.Lookups.{swap}
use Rattle.keyed.proofs.Reordered.{reordered_same, reordered_all}
use Rattle.margin.specs.declared.Order.{Order}
use Rattle.margin.specs.Numbers.{total, count, any, the_first}
use Rattle.margin.specs.Sheets.{Apart}
use Rattle.margin.specs.Limits.{highest}

or_turns : (a b c : Bool) → (a || (b || c)) ≡ (b || (a || c))
or_turns true true c = refl
or_turns true false c = refl
or_turns false b c = refl

module _ {X : Type 0} where
  pub total_reordered : (f : X → ℤ) {xs ys : List X} → Reordered xs ys → total f xs ≡ total f ys
  total_reordered f r = reordered_same (total f) (λ x z. f x +ℤ z) (λ x xs. refl) (λ x y z. omega (arith, ints)) r

  pub count_reordered : (f : X → ℕ) {xs ys : List X} → Reordered xs ys → count f xs ≡ count f ys
  count_reordered f r = reordered_same (count f) (λ x n. f x + n) (λ x xs. refl) (λ x y n. omega arith) r

  pub any_reordered : (t : X → Bool) {xs ys : List X} → Reordered xs ys → any t xs ≡ any t ys
  any_reordered t r = reordered_same (any t) (λ x b. t x || b) (λ x xs. refl) (λ x y b. or_turns (t x) (t y) b) r

pub highest_reordered : (p : ℕ) {os ns : List Order} → Reordered os ns → highest p os ≡ highest p ns
highest_reordered p r = reordered_same (highest p) (λ o n. max o.price n) (λ o os. refl) (λ o n m. omega arith) r

-- ---- by keys
module _ {X : Type 0} (key : X → ℕ) where
  pub apart_reordered : {xs ys : List X} → Reordered xs ys → Apart key xs → Apart key ys
  apart_reordered nothing a = a
  apart_reordered (keeping x r) (d, a) = (reordered_all (λ y. eqb (key x) (key y) ≡ false) r d, apart_reordered r a)
  apart_reordered (swapping x y xs) ((d, e), (f, a)) = ((ne_eqb (key y) (key x) (λ s. eqb-false (key x) (key y) d (sym s)), f), (e, a))
  apart_reordered (again r s) a = apart_reordered s (apart_reordered r a)

  pub first_reordered : (n : ℕ) {xs ys : List X} → Reordered xs ys → Apart key xs → the_first (λ x. eqb n (key x)) xs ≡ the_first (λ x. eqb n (key x)) ys
  first_reordered n nothing a = refl
  first_reordered n (keeping x r) (d, a) = ap (λ (w : Option X). cond (eqb n (key x)) (Some x) w) (first_reordered n r a)
  first_reordered n (swapping x y xs) ((d, e), a) = swap n (key x) (key y) (Some x) (Some y) (the_first (λ x. eqb n (key x)) xs) (eqb-false (key x) (key y) d)
  first_reordered n (again r s) a = first_reordered n r a ∙ first_reordered n s (apart_reordered r a)
