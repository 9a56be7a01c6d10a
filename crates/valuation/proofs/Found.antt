-- What a search of a whole list found.
use Rattle.std.proofs.Common.{◌≡◌, ℕ, List, get_or, Some, None, Ok, Err, Result, sym, subst, arith}
use Rattle.std.specs.Result.{result_ok}
use Rattle.keyed.specs.Rows.{Rising, Sought, lookup}
use Rattle.keyed.proofs.Lookups.{lookup_stands, lookup_gap}

module _ {R : Type 0} (key : R → ℕ) (xs : List R) (q : ℕ) (up : Rising key xs) where
  pub found : (r : Result ℕ ℕ) → Sought key xs q r → (i : ℕ) → result_ok r ≡ Some i → (d : R) → Some (get_or xs i d) ≡ lookup key xs q
  found (Ok j) s i e d = let same : j ≡ i = cc in sym (lookup_stands key xs q i d up (subst (λ k. Sought key xs q (Ok k)) same s))
  found (Err j) s i e d = let z : ◌≡◌ {A = ℕ} 0 1 = cc in absurd (omega arith)

  pub missing : (r : Result ℕ ℕ) → Sought key xs q r → result_ok r ≡ None → None ≡ lookup key xs q
  missing (Ok j) s e = let z : ◌≡◌ {A = ℕ} 0 1 = cc in absurd (omega arith)
  missing (Err j) s e = sym (lookup_gap key xs q j s)
