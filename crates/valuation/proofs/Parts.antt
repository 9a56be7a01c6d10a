-- What a filter keeps of a part of a list that leaves out only what fails the test.
use Rattle.std.proofs.Common.{◌≡◌, ℕ, zero, suc, ◌-◌, ◌<◌, ◌≤◌, Bool, false, cond, List, [], ◌∷◌, length, get_or, take, drop, ℤ, pos, filter, sym, refl, ap, ◌∙◌, arith, length-drop}
use Rattle.std.proofs.lemmas.Bool.{cond-false}
use Rattle.margin.specs.Numbers.{total, count}
use Rattle.margin.proofs.Sums.{sum_kept, count_kept}

-- what stands from a place on, as a slice to the end gives it
abbrev pub from : {X : Type 0} → List X → ℕ → List X
from xs s = take (length xs - s) (drop s xs)

module _ {X : Type 0} (t : X → Bool) where
  none_before : (xs : List X) (s : ℕ) → ((k : ℕ) (d : X) → k < s → k < length xs → t (get_or xs k d) ≡ false) → filter t (drop s xs) ≡ filter t xs
  none_before xs zero h = refl
  none_before [] (suc s) h = refl
  none_before (x ∷ xs) (suc s) h = none_before xs s (λ k d i j. h (suc k) d (omega arith) (omega arith)) ∙ sym (cond-false _ _ _ (h 0 x (omega arith) (omega arith)))

  none_after : (xs : List X) (e : ℕ) → ((k : ℕ) (d : X) → e ≤ k → k < length xs → t (get_or xs k d) ≡ false) → filter t (take e xs) ≡ filter t xs
  none_after [] zero h = refl
  none_after [] (suc e) h = refl
  none_after (x ∷ xs) zero h = none_after xs zero (λ k d i j. h (suc k) d (omega arith) (omega arith)) ∙ sym (cond-false _ _ _ (h 0 x (omega arith) (omega arith)))
  none_after (x ∷ xs) (suc e) h = ap (λ ys. cond (t x) (x ∷ ys) ys) (none_after xs e (λ k d i j. h (suc k) d (omega arith) (omega arith)))

  pub kept_between : (xs : List X) (s e : ℕ) → ((k : ℕ) (d : X) → k < s → k < length xs → t (get_or xs k d) ≡ false) → ((k : ℕ) (d : X) → e ≤ k → k < length (from xs s) → t (get_or (from xs s) k d) ≡ false) →
      filter t (take e (from xs s)) ≡ filter t xs
  kept_between xs s e first later =
      none_after (from xs s) e later ∙ none_after (drop s xs) (length xs - s) (λ k d i j. absurd (omega (arith, length-drop s xs))) ∙ none_before xs s first

  -- sums over what is kept alike
  pub total_alike : (g : X → ℤ) (xs ys : List X) → filter t xs ≡ filter t ys → total (λ x. cond (t x) (g x) (pos 0)) xs ≡ total (λ x. cond (t x) (g x) (pos 0)) ys
  total_alike g xs ys e = sym (sum_kept t g xs) ∙ ap (total g) e ∙ sum_kept t g ys

  pub count_alike : (g : X → ℕ) (xs ys : List X) → filter t xs ≡ filter t ys → count (λ x. cond (t x) (g x) 0) xs ≡ count (λ x. cond (t x) (g x) 0) ys
  count_alike g xs ys e = sym (count_kept t g xs) ∙ ap (count g) e ∙ count_kept t g ys
