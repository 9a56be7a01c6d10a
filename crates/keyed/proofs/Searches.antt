-- What the library's searches answer for records whose keys rise.
use Rattle.std.proofs.Common.{◌≡◌, ℕ, ◌+◌, ◌≤◌, ltb, List, length, Ok, Err, Result, sym, subst, arith}
use Rattle.std.specs.Ordering.{nat_cmp, ordering_index, is_lt, is_le}
use Rattle.std.specs.List.Sorted.{IsSearchInRange, IsBinarySearchResult}
use Rattle.std.proofs.lemmas.Cmp.{ranked}
use Rattle.std.proofs.lemmas.Bool.Decides.{nat_tests}
use Rattle.keyed.specs.Rows.{Rising, Sought}
use Rattle.keyed.proofs.Far.{level}

-- the comparisons with q rise with what is compared
ordered : (a b q : ℕ) → a ≤ b → ordering_index (nat_cmp a q) ≤ ordering_index (nat_cmp b q)
ordered a b q le = grind (arith, nat_tests)

-- the tests that cut a list: below q, and up to q
pub tests_below : (a q : ℕ) → is_lt (nat_cmp a q) ≡ ltb a q
tests_below a q = grind (arith, nat_tests)

pub tests_up_to : (a q : ℕ) → is_le (nat_cmp a q) ≡ ltb a (q + 1)
tests_up_to a q = grind (arith, nat_tests)

module _ {R : Type 0} (key : R → ℕ) where
  -- where a search by comparison ends
  pub sought : (xs : List R) → Rising key xs → (q : ℕ) (r : Result ℕ ℕ) → IsSearchInRange r (length xs) → IsBinarySearchResult (λ y. nat_cmp (key y) q) xs r → Sought key xs q r
  sought xs up q (Ok i) within equal = record { within = within; here = λ d. ranked _ q _ (sym (equal d)) }
  sought xs up q (Err i) within parted =
      let cut = parted (λ i j d le h. ordered _ _ q (level key xs up i j d le h)) in
      record { within = within; below = λ k d l. ranked _ q _ (sym (cut.0 k d (omega arith) l)); above = λ k d l h. ranked _ q _ (sym (cut.1 k d l h)) }

  -- the same place, however it is written
  pub gap_at : (xs : List R) (q i j : ℕ) → i ≡ j → Sought key xs q (Err i) → Sought key xs q (Err j)
  gap_at xs q i j e = subst (λ (k : ℕ). Sought key xs q (Err k)) e
