-- Sums, the least, and rounding, over the integers; tests and searches over lists.
use Rattle.std.specs.Prelude.{ℕ, ◌+◌, Bool, false, cond, ◌||◌, List, [], ◌∷◌, ℤ, pos, ◌+ℤ◌, neg_ℤ, Some, None, Option, int_lt}
use Rattle.std.specs.Int.Signed.{shr_z}
use Rattle.std.specs.Int.{int_min}

-- z / n, toward minus infinity
abbrev pub down : ℤ → ℕ → ℤ
down z n = shr_z z n

-- z / 2, rounded up
abbrev pub half_up : ℤ → ℤ
half_up z = neg_ℤ (down (neg_ℤ z) 2)

abbrev pub below : ℤ → ℤ → Bool
below a b = int_lt a b

abbrev pub total : {X : Type 0} → (X → ℤ) → List X → ℤ
total f [] = pos 0
total f (x ∷ xs) = f x +ℤ total f xs

abbrev pub count : {X : Type 0} → (X → ℕ) → List X → ℕ
count f [] = 0
count f (x ∷ xs) = f x + count f xs

-- the least of f over a list, and 0 over none
abbrev pub least : {X : Type 0} → (X → ℤ) → List X → ℤ
least f [] = pos 0
least f (x ∷ []) = f x
least f (x ∷ (y ∷ ys)) = int_min (f x) (least f (y ∷ ys))

-- some element passes the test
abbrev pub any : {X : Type 0} → (X → Bool) → List X → Bool
any t [] = false
any t (x ∷ xs) = t x || any t xs

-- the first element that passes the test
abbrev pub the_first : {X : Type 0} → (X → Bool) → List X → Option X
the_first t [] = None
the_first t (x ∷ xs) = cond (t x) (Some x) (the_first t xs)
