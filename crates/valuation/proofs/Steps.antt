-- The step of a loop that sums.
use Rattle.std.proofs.Common.{◌≡◌, ℕ, ◌+◌, ◌<◌, List, [], ◌∷◌, ◌++◌, length, get_or, take, ℤ, ◌+ℤ◌, ap, ◌∙◌, arith}
use borrow.Author.Differences.{ints}
use Rattle.std.proofs.lemmas.List.{take_more}
use Rattle.margin.specs.Numbers.{total, count}

module _ {X : Type 0} where
  total_last : (f : X → ℤ) (xs : List X) (x : X) → total f (xs ++ x ∷ []) ≡ total f xs +ℤ f x
  total_last f [] x = omega (arith, ints)
  total_last f (y ∷ xs) x = omega (arith, ints, total_last f xs x)

  pub total_more : (f : X → ℤ) (xs : List X) (i : ℕ) (d : X) → i < length xs → total f (take (i + 1) xs) ≡ total f (take i xs) +ℤ f (get_or xs i d)
  total_more f xs i d h = ap (total f) (take_more xs i d h) ∙ total_last f (take i xs) (get_or xs i d)

  count_last : (f : X → ℕ) (xs : List X) (x : X) → count f (xs ++ x ∷ []) ≡ count f xs + f x
  count_last f [] x = omega arith
  count_last f (y ∷ xs) x = omega (arith, count_last f xs x)

  pub count_more : (f : X → ℕ) (xs : List X) (i : ℕ) (d : X) → i < length xs → count f (take (i + 1) xs) ≡ count f (take i xs) + f (get_or xs i d)
  count_more f xs i d h = ap (count f) (take_more xs i d h) ∙ count_last f (take i xs) (get_or xs i d)
