-- A loop that keeps the lowest value so far, and the floor of the lowest.
use Rattle.std.proofs.Common.{◌≡◌, ℕ, zero, suc, ◌-◌, ◌*◌, ◌<◌, ◌≤◌, Bool, true, false, cond, List, [], ◌∷◌, length, drop, ℤ, pos, negsuc, nat_abs, Some, None, Option, sym, refl, ap, ◌∙◌, subst, ◌+◌, arith}
use Rattle.std.proofs.lemmas.List.{at_drop_all}
use Rattle.std.proofs.lemmas.Int.{ints, clamps, by_lt_z}
use Rattle.std.specs.List.{slice_get}
use Rattle.std.specs.Int.{int_min}
use Rattle.std.specs.Option.{option_map}
use Rattle.rates.specs.Pieces.{from_one}
use Rattle.margin.specs.Numbers.{down, least}
use Rattle.margin.proofs.Integers.{floor_is}
use Rattle.valuation.specs.Raw.{lower, lowest, floored, Small, reach}

lower_none : (a : Option ℤ) → lower a None ≡ a
lower_none None = refl
lower_none (Some m) = refl

lower_assoc : (a b c : Option ℤ) → lower (lower a b) c ≡ lower a (lower b c)
lower_assoc None b c = refl
lower_assoc (Some l) None c = refl
lower_assoc (Some l) (Some m) None = refl
lower_assoc (Some l) (Some m) (Some n) = let e : int_min (int_min l m) n ≡ int_min l (int_min m n) = omega (arith, ints, clamps) in ap Some e

module _ {X : Type 0} (f : X → ℤ) where
  lowest_at : (ps : List X) (j : ℕ) → lower (option_map f (slice_get ps j)) (lowest f (drop (suc j) ps)) ≡ lowest f (drop j ps)
  lowest_at [] zero = refl
  lowest_at [] (suc j) = refl
  lowest_at (p ∷ ps) zero = refl
  lowest_at (p ∷ ps) (suc j) = lowest_at ps j

  lower_turn : (ps : List X) (i : ℕ) (best next new all : Option ℤ) → next ≡ option_map f (slice_get ps i) → new ≡ lower best next → lower best (lowest f (drop i ps)) ≡ all → lower new (lowest f (drop (suc i) ps)) ≡ all
  lower_turn ps i best next new all is made inv =
      ap (λ o. lower o (lowest f (drop (suc i) ps))) (made ∙ ap (lower best) is) ∙ lower_assoc best (option_map f (slice_get ps i)) (lowest f (drop (suc i) ps)) ∙ ap (lower best) (lowest_at ps i) ∙ inv

  -- a turn of the loop: what the lowest so far and the rest come to stays
  pub lower_next : (ps : List X) (k : ℕ) (best next new all : Option ℤ) → 1 ≤ k → next ≡ option_map f (from_one ps k) → new ≡ lower best next → lower best (lowest f (drop (k - 1) ps)) ≡ all → lower new (lowest f (drop k ps)) ≡ all
  lower_next ps zero best next new all low is made inv = absurd (omega arith)
  lower_next ps (suc i) best next new all low is made inv =
      let e : suc i - 1 ≡ i = omega arith in
      lower_turn ps i best next new all is made (ap (λ n. lower best (lowest f (drop n ps))) (sym e) ∙ inv)

  pub lower_done : (ps : List X) (k : ℕ) (best : Option ℤ) → length ps ≤ k → lower best (lowest f (drop k ps)) ≡ best
  lower_done ps k best past = ap (lower best) (at_drop_all (lowest f) ps k past) ∙ lower_none best

  -- the start: one more in front, where it joins
  pub lower_start : (x : X) (b : Bool) (ps : List X) → lower (cond b (Some (f x)) None) (lowest f ps) ≡ lowest f (cond b (x ∷ ps) ps)
  lower_start x true ps = refl
  lower_start x false ps = refl

-- ---- the floor of the lowest is the least of the floors
floor_min : (y z : ℤ) → down (int_min y z) 10000 ≡ int_min (down y 10000) (down z 10000)
floor_min y z = by_lt_z y z
    (λ l. let e : int_min y z ≡ y = omega (arith, ints, clamps) in ap (λ x. down x 10000) e ∙ omega (arith, ints, clamps, floor_is))
    (λ l. let e : int_min y z ≡ z = omega (arith, ints, clamps) in ap (λ x. down x 10000) e ∙ omega (arith, ints, clamps, floor_is))

floored_lower : (z : ℤ) (o : Option ℤ) (w : ℤ) → o ≡ Some w → floored (lower (Some z) o) ≡ int_min (down z 10000) (floored o)
floored_lower z None w e = let x : ◌≡◌ {A = ℕ} 0 1 = cc in absurd (omega arith)
floored_lower z (Some v) w e = floor_min z v

lowest_some : {X : Type 0} (f : X → ℤ) (x : X) (xs : List X) → (z : ℤ) × (lowest f (x ∷ xs) ≡ Some z)
lowest_some f x [] = (f x, refl)
lowest_some f x (y ∷ ys) = let (z, e) = lowest_some f y ys in (int_min (f x) z, ap (lower (Some (f x))) e)

pub floored_least : {X : Type 0} (f : X → ℤ) (xs : List X) → floored (lowest f xs) ≡ least (λ x. down (f x) 10000) xs
floored_least f [] = refl
floored_least f (x ∷ []) = refl
floored_least f (x ∷ (y ∷ ys)) =
    let (z, e) = lowest_some f y ys in
    floored_lower (f x) (lowest f (y ∷ ys)) z e ∙ ap (int_min (down (f x) 10000)) (floored_least f (y ∷ ys))

-- ---- sizes
pub lower_small : (m : ℕ) (a b : Option ℤ) → Small m a → Small m b → Small m (lower a b)
lower_small m None b h k = k
lower_small m (Some x) None h k = h
lower_small m (Some x) (Some y) h k = omega (arith, ints, clamps)

floored_small : (m : ℕ) (o : Option ℤ) → Small (10000 * m) o → nat_abs (floored o) ≤ m
floored_small m None h = omega arith
floored_small m (Some (pos n)) h = omega arith
floored_small m (Some (negsuc n)) h = omega arith

pub floored_reach : (z : ℤ) (o : Option ℤ) → Small (reach z) o → nat_abs (floored o) ≤ 2 * nat_abs z + 500_000_000_000_000_000_000_000
floored_reach z o h =
    let e : reach z ≡ 10000 * (2 * nat_abs z + 500_000_000_000_000_000_000_000) = omega arith in
    floored_small (2 * nat_abs z + 500_000_000_000_000_000_000_000) o (subst (λ m. Small m o) e h)

-- a code that is not known has no pieces, and one that is has at most the source's number
pub within_limit : {X : Type 0} (ps : List X) (most : ℕ) → (0 < length ps → length ps ≤ most) → (k : ℕ) → most ≤ k → length ps ≤ k
within_limit [] most h k past = omega arith
within_limit (p ∷ ps) most h k past = omega (arith, h (omega arith))
