-- Sums and leasts over the integers.
use Rattle.std.proofs.Common.{◌≡◌, ℕ, ◌+◌, ◌≤◌, Bool, true, false, cond, List, [], ◌∷◌, ℤ, pos, ◌+ℤ◌, ◌-ℤ◌, ◌*ℤ◌, ◌≤ℤ◌, filter, sym, refl, ap, ◌∙◌, ap₂, arith}
use lib.IntN.{+ℤ_idl}
use lib.Signed.{≤ℤ_refl, lt_z}
use Rattle.std.specs.List.{AllByRecursion}
use Rattle.std.proofs.lemmas.Int.{ints, clamps}
use Rattle.margin.specs.Numbers.{total, count, least}
use Rattle.margin.proofs.Integers.{mul_sum}
use Rattle.margin.proofs.Lists.{by_test}

pub both_all : {X : Type 0} (P Q R : X → Type 0) → ((x : X) → P x → Q x → R x) → (xs : List X) → AllByRecursion P xs → AllByRecursion Q xs → AllByRecursion R xs
both_all P Q R h [] p q = tt
both_all P Q R h (x ∷ xs) p q = (h x p.0 q.0, both_all P Q R h xs p.1 q.1)

pub all_each : {X : Type 0} (P : X → Type 0) → ((x : X) → P x) → (xs : List X) → AllByRecursion P xs
all_each P h [] = tt
all_each P h (x ∷ xs) = (h x, all_each P h xs)

module _ {X : Type 0} where
  pub sum_same_all : (g h : X → ℤ) (xs : List X) → AllByRecursion (λ x. g x ≡ h x) xs → total g xs ≡ total h xs
  sum_same_all g h [] e = refl
  sum_same_all g h (x ∷ xs) e = ap₂ ◌+ℤ◌ e.0 (sum_same_all g h xs e.1)

  pub sum_same : (g h : X → ℤ) → ((x : X) → g x ≡ h x) → (xs : List X) → total g xs ≡ total h xs
  sum_same g h e [] = refl
  sum_same g h e (x ∷ xs) = ap₂ ◌+ℤ◌ (e x) (sum_same g h e xs)

  pub sum_le_all : (g h : X → ℤ) (xs : List X) → AllByRecursion (λ x. g x ≤ℤ h x) xs → total g xs ≤ℤ total h xs
  sum_le_all g h [] e = ≤ℤ_refl (pos 0)
  sum_le_all g h (x ∷ xs) e = omega (arith, ints, e.0, sum_le_all g h xs e.1)

  pub sum_le : (g h : X → ℤ) → ((x : X) → g x ≤ℤ h x) → (xs : List X) → total g xs ≤ℤ total h xs
  sum_le g h e [] = ≤ℤ_refl (pos 0)
  sum_le g h e (x ∷ xs) = omega (arith, ints, e x, sum_le g h e xs)

  pub sum_minus : (g h : X → ℤ) (xs : List X) → total (λ x. g x -ℤ h x) xs ≡ total g xs -ℤ total h xs
  sum_minus g h [] = refl
  sum_minus g h (x ∷ xs) = omega (arith, ints, sum_minus g h xs)

  pub sum_kept : (t : X → Bool) (g : X → ℤ) (xs : List X) → total g (filter t xs) ≡ total (λ x. cond (t x) (g x) (pos 0)) xs
  sum_kept t g [] = refl
  sum_kept t g (x ∷ xs) = go (t x) (sum_kept t g xs)
    where
      go : (b : Bool) → total g (filter t xs) ≡ total (λ x. cond (t x) (g x) (pos 0)) xs → total g (cond b (x ∷ filter t xs) (filter t xs)) ≡ cond b (g x) (pos 0) +ℤ total (λ x. cond (t x) (g x) (pos 0)) xs
      go true e = ap (λ z. g x +ℤ z) e
      go false e = e ∙ sym (+ℤ_idl _)

  pub count_same_all : (g h : X → ℕ) (xs : List X) → AllByRecursion (λ x. g x ≡ h x) xs → count g xs ≡ count h xs
  count_same_all g h [] e = refl
  count_same_all g h (x ∷ xs) e = ap₂ ◌+◌ e.0 (count_same_all g h xs e.1)

  pub count_kept : (t : X → Bool) (g : X → ℕ) (xs : List X) → count g (filter t xs) ≡ count (λ x. cond (t x) (g x) 0) xs
  count_kept t g [] = refl
  count_kept t g (x ∷ xs) = go (t x) (count_kept t g xs)
    where
      go : (b : Bool) → count g (filter t xs) ≡ count (λ x. cond (t x) (g x) 0) xs → count g (cond b (x ∷ filter t xs) (filter t xs)) ≡ cond b (g x) 0 + count (λ x. cond (t x) (g x) 0) xs
      go true e = ap (λ z. g x + z) e
      go false e = omega (arith, e)

  pub count_fewer : (g : X → ℕ) (t : X → Bool) (xs : List X) → count g (filter t xs) ≤ count g xs
  count_fewer g t [] = omega arith
  count_fewer g t (x ∷ xs) = let r = count_fewer g t xs in by_test (t x) (λ y. rw y (omega arith)) (λ n. rw n (omega arith))

  -- what is taken out was not above nought
  pub sum_fewer : (g : X → ℤ) → ((x : X) → g x ≤ℤ pos 0) → (t : X → Bool) (xs : List X) → total g xs ≤ℤ total g (filter t xs)
  sum_fewer g e t [] = ≤ℤ_refl (pos 0)
  sum_fewer g e t (x ∷ xs) = go (t x) (sum_fewer g e t xs)
    where
      go : (b : Bool) → total g xs ≤ℤ total g (filter t xs) → (g x +ℤ total g xs) ≤ℤ total g (cond b (x ∷ filter t xs) (filter t xs))
      go true k = omega (arith, ints)
      go false k = omega (arith, ints, e x)

  -- k·Σa = Σc + m·Σb, where that holds of each summand
  pub sum_linear : (k m : ℕ) (a b c : X → ℤ) → ((x : X) → pos k *ℤ a x ≡ c x +ℤ pos m *ℤ b x) → (xs : List X) → pos k *ℤ total a xs ≡ total c xs +ℤ pos m *ℤ total b xs
  sum_linear k m a b c e [] = omega (arith, ints)
  sum_linear k m a b c e (x ∷ xs) = rw (mul_sum (pos k) (a x) (total a xs), mul_sum (pos m) (b x) (total b xs)) (omega (arith, ints, e x, sum_linear k m a b c e xs))

  pub least_le : (g h : X → ℤ) → ((x : X) → g x ≤ℤ h x) → (xs : List X) → least g xs ≤ℤ least h xs
  least_le g h e [] = ≤ℤ_refl (pos 0)
  least_le g h e (x ∷ []) = e x
  least_le g h e (x ∷ (y ∷ ys)) = omega (arith, ints, clamps, e x, least_le g h e (y ∷ ys))

  pub least_same : (g h : X → ℤ) → ((x : X) → g x ≡ h x) → (xs : List X) → least g xs ≡ least h xs
  least_same g h e [] = refl
  least_same g h e (x ∷ []) = e x
  least_same g h e (x ∷ (y ∷ ys)) = omega (arith, ints, clamps, e x, least_same g h e (y ∷ ys))

  pub least_shift : (c : ℤ) (g h : X → ℤ) → ((x : X) → g x -ℤ c ≡ h x) → (x : X) (xs : List X) → least g (x ∷ xs) -ℤ c ≡ least h (x ∷ xs)
  least_shift c g h e x [] = e x
  least_shift c g h e x (y ∷ ys) = omega (arith, ints, clamps, e x, least_shift c g h e y ys)

  -- the least is that of some element, at which no other least is greater
  pub least_at : (g : X → ℤ) (x : X) (xs : List X) → (p : X) × (least g (x ∷ xs) ≡ g p) × ((h : X → ℤ) → least h (x ∷ xs) ≤ℤ h p)
  least_at g x [] = (x, refl, λ h. ≤ℤ_refl (h x))
  least_at g x (y ∷ ys) = go (lt_z (least g (y ∷ ys)) (g x)) refl (least_at g y ys)
    where
      go : (b : Bool) → lt_z (least g (y ∷ ys)) (g x) ≡ b → (p : X) × (least g (y ∷ ys) ≡ g p) × ((h : X → ℤ) → least h (y ∷ ys) ≤ℤ h p) → (p : X) × (least g (x ∷ (y ∷ ys)) ≡ g p) × ((h : X → ℤ) → least h (x ∷ (y ∷ ys)) ≤ℤ h p)
      go true e (p, i, k) = (p, omega (arith, ints, clamps), λ h. omega (arith, ints, clamps, k h))
      go false e t = (x, omega (arith, ints, clamps), λ h. omega (arith, ints, clamps))
