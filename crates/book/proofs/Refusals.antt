-- What is not refused is in its range.
use Rattle.std.proofs.Common.{◌≡◌, ℕ, Bool, true, false, Ok, refl, arith}
use Rattle.book.specs.Ranges.{ranged}

pub not_refused : (b : Bool) (p : ℕ) (u : Unit {0}) → Ok u ≡ ranged b p → b ≡ false
not_refused true p u e = grind arith
not_refused false p u e = refl
