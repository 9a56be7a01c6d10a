-- A figure that is kept: nought or more afterwards, or no lower than it was.
use Rattle.std.proofs.Common.{◌≡◌, false, ◌&&◌, ℤ, pos, inl, inr, ⊎_elim, arith}
use lib.Signed.{lt_z}
use Rattle.std.proofs.lemmas.Int.{ints}
use Rattle.std.proofs.lemmas.Bool.{and_cases}
use Rattle.rules.specs.Laws.{Kept}
use Rattle.margin.proofs.Integers.{not_less}

pub kept_equal : (x y : ℤ) → x ≡ y → Kept x y
kept_equal x y e = inr (omega (arith, ints))

pub kept_along : (x y z : ℤ) → Kept x y → Kept y z → Kept x z
kept_along x y z (inl a) (inl b) = inl b
kept_along x y z (inl a) (inr b) = inl (omega (arith, ints))
kept_along x y z (inr a) (inl b) = inl b
kept_along x y z (inr a) (inr b) = inr (omega (arith, ints))

pub not_worse : (x y : ℤ) → (lt_z y (pos 0) && lt_z y x) ≡ false → Kept x y
not_worse x y e = ⊎_elim (λ a. inl (not_less y (pos 0) a)) (λ b. inr (not_less y x b)) (and_cases _ _ e)
