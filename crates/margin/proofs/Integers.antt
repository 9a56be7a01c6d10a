-- Integers: products, order, the floor.
use Rattle.std.proofs.Common.{◌≡◌, ℕ, suc, ◌+◌, ◌-◌, ◌*◌, ◌<◌, ◌≤◌, true, false, ℤ, pos, negsuc, ◌+ℤ◌, ◌-ℤ◌, ◌*ℤ◌, neg_ℤ, ◌≤ℤ◌, ◌<ℤ◌, refl, ap, ◌∙◌, mul-le-mul_right, mul-le-mul_left, arith}
use lib.Signed.{lt_z, shr_z}
use borrow.Author.Differences.{up, down, sum_is_lem, neg_is, product_is, le_out}
use Rattle.std.specs.Int.{int_min}
use Rattle.std.proofs.lemmas.Int.{ints, clamps}

-- z / 10,000, toward minus infinity
abbrev pub floor : ℤ → ℤ
floor z = shr_z z 10000

-- the lesser of 0 and z, by clauses
abbrev pub min0 : ℤ → ℤ
min0 (pos n) = pos 0
min0 (negsuc n) = negsuc n

-- the rule's `min(0, z)`
pub min0_is_min : (z : ℤ) → min0 z ≡ int_min (pos 0) z
min0_is_min (pos n) = omega (arith, ints, clamps)
min0_is_min (negsuc n) = omega (arith, ints, clamps)

pub mul_sum : (k a b : ℤ) → k *ℤ (a +ℤ b) ≡ k *ℤ a +ℤ k *ℤ b
mul_sum k a b = omega (arith, ints, ap (λ n. up k * n) (sum_is_lem a b), ap (λ n. down k * n) (sum_is_lem a b))

pub mul_le : (k : ℕ) (a b : ℤ) → a ≤ℤ b → (pos k *ℤ a) ≤ℤ (pos k *ℤ b)
mul_le k a b h = omega (arith, ints, mul-le-mul_left k (le_out a b h))

-- for `omega`: 10000·floor z ≤ z < 10000·floor z + 10000
pub floor_is : (z : ℤ) → (10000 * up (floor z) + down z ≤ up z + 10000 * down (floor z)) × (up z + 10000 * down (floor z) < 10000 * up (floor z) + down z + 10000)
floor_is (pos n) = omega arith
floor_is (negsuc n) = omega arith

pub floor_le : (a b : ℤ) → a ≤ℤ b → floor a ≤ℤ floor b
floor_le a b h = omega (arith, ints, floor_is)

pub floor_plus : (z k : ℤ) → floor (z +ℤ pos 10000 *ℤ k) ≡ floor z +ℤ k
floor_plus z k = omega (arith, ints, floor_is)

drag_le₀ : (n f : ℕ) (g : ℤ) → f ≤ n → (pos n *ℤ min0 g) ≤ℤ (pos f *ℤ g)
drag_le₀ n f (pos g) h = omega (arith, ints)
drag_le₀ n f (negsuc g) h = omega (arith, ints, mul-le-mul_right (suc g) h)

pub drag_le : (n f : ℕ) (g : ℤ) → f ≤ n → (pos n *ℤ int_min (pos 0) g) ≤ℤ (pos f *ℤ g)
drag_le n f g h = rw (← (min0_is_min g)) (drag_le₀ n f g h)

pub mul_mul : (k m : ℕ) (z : ℤ) → pos k *ℤ (pos m *ℤ z) ≡ pos (k * m) *ℤ z
mul_mul k m z = omega (arith, ints, ap (λ n. k * n) (product_is (pos m) z).0, ap (λ n. k * n) (product_is (pos m) z).1)

pub le_eq : {a b c : ℤ} → a ≤ℤ b → b ≡ c → a ≤ℤ c
le_eq h e = rw e at h

pub ≤ℤ_trans : {a b c : ℤ} → a ≤ℤ b → b ≤ℤ c → a ≤ℤ c
≤ℤ_trans h k = omega (arith, ints)

pub ≤ℤ_antisym : {a b : ℤ} → a ≤ℤ b → b ≤ℤ a → a ≡ b
≤ℤ_antisym h k = omega (arith, ints)

-- the units of an order that make the least of their gain: all or nothing
abbrev pub all_or_none : ℤ → ℕ → ℕ
all_or_none (pos g) n = 0
all_or_none (negsuc g) n = n

pub all_or_none_fits : (g : ℤ) (n : ℕ) → all_or_none g n ≤ n
all_or_none_fits (pos g) n = omega arith
all_or_none_fits (negsuc g) n = omega arith

all_or_none_is₀ : (n : ℕ) (g : ℤ) → pos (all_or_none g n) *ℤ g ≡ pos n *ℤ min0 g
all_or_none_is₀ n (pos g) = omega (arith, ints)
all_or_none_is₀ n (negsuc g) = refl

pub all_or_none_is : (n : ℕ) (g : ℤ) → pos (all_or_none g n) *ℤ g ≡ pos n *ℤ int_min (pos 0) g
all_or_none_is n g = all_or_none_is₀ n g ∙ ap (λ z. pos n *ℤ z) (min0_is_min g)

pub mul_neg : (k z : ℤ) → k *ℤ neg_ℤ z ≡ neg_ℤ (k *ℤ z)
mul_neg k z = omega (arith, ints, ap (λ n. up k * n) (neg_is z).0, ap (λ n. up k * n) (neg_is z).1, ap (λ n. down k * n) (neg_is z).0, ap (λ n. down k * n) (neg_is z).1)

pub plus_le : (c a b : ℤ) → a ≤ℤ b → (c +ℤ a) ≤ℤ (c +ℤ b)
plus_le c a b h = omega (arith, ints)

pub plus_both : (a b c d : ℤ) → a ≤ℤ b → c ≤ℤ d → (a +ℤ c) ≤ℤ (b +ℤ d)
plus_both a b c d h k = omega (arith, ints)

pub plus_le_right : (c a b : ℤ) → a ≤ℤ b → (a +ℤ c) ≤ℤ (b +ℤ c)
plus_le_right c a b h = omega (arith, ints)

pub mul_split : (n x : ℕ) (z : ℤ) → x ≤ n → pos n *ℤ z ≡ pos (n - x) *ℤ z +ℤ pos x *ℤ z
mul_split n x z h = let e : n ≡ (n - x) + x = omega arith in omega (arith, ints, ap (λ t. t * up z) e, ap (λ t. t * down z) e)

pub minus_le : (a d b : ℤ) → (a +ℤ d) ≤ℤ b → a ≤ℤ (b -ℤ d)
minus_le a d b h = omega (arith, ints)

-- P·(w·(q + M) + a) = P·(w·q + a) + P·w·M
pub plan_plus : (P w a : ℕ) (q M : ℤ) → pos P *ℤ (pos w *ℤ (q +ℤ M) +ℤ pos a) ≡ pos P *ℤ (pos w *ℤ q +ℤ pos a) +ℤ pos (P * w) *ℤ M
plan_plus P w a q M = simp (mul_sum, mul_mul) (omega (arith, ints))

fewer_le₀ : (n m : ℕ) (g : ℤ) → m ≤ n → (pos n *ℤ min0 g) ≤ℤ (pos m *ℤ min0 g)
fewer_le₀ n m (pos g) h = omega (arith, ints)
fewer_le₀ n m (negsuc g) h = omega (arith, ints, mul-le-mul_right (suc g) h)

pub fewer_le : (n m : ℕ) (g : ℤ) → m ≤ n → (pos n *ℤ int_min (pos 0) g) ≤ℤ (pos m *ℤ int_min (pos 0) g)
fewer_le n m g h = rw (← (min0_is_min g)) (fewer_le₀ n m g h)

-- an order can lose, and not gain
pub drag_none : (n : ℕ) (g : ℤ) → (pos n *ℤ int_min (pos 0) g) ≤ℤ pos 0
drag_none n g = le_eq (fewer_le n 0 g (omega arith)) (omega (arith, ints))

-- ---- tests
pub less_than : (x y : ℤ) → lt_z x y ≡ true → x <ℤ y
less_than x y e = grind (arith, ints)

pub less_test : (x y : ℤ) → x <ℤ y → lt_z x y ≡ true
less_test x y e = grind (arith, ints)

pub not_less : (x y : ℤ) → lt_z x y ≡ false → y ≤ℤ x
not_less x y e = grind (arith, ints)

pub add_nought : (z d : ℤ) → d ≡ pos 0 → z +ℤ d ≡ z
add_nought z d e = omega (arith, ints)
