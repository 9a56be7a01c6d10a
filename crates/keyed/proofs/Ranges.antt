-- In a list whose keys rise, the records with keys between two numbers stand together.
use Rattle.std.proofs.Common.{◌≡◌, ℕ, zero, suc, ◌+◌, ◌-◌, ◌<◌, ◌≤◌, max, Bool, true, false, ◌&&◌, leb, ltb, List, [], ◌∷◌, length, get_or, take, drop, filter, sym, refl, ap, ◌∙◌, arith}
use Rattle.std.specs.List.Sorted.{IsPartitionPoint}
use Rattle.std.proofs.lemmas.Bool.{cond-true, cond-false, and_from, and_left, and_right, le-leb, lt-leb, ltb-true, ltb-false}
use Rattle.keyed.specs.Rows.{ranked_between}

-- what passes a test stands together, where it is the n records from i on
stand_together : {R : Type 0} (p : R → Bool) (xs : List R) (i n : ℕ)
    → ((k : ℕ) (d : R) → k < i → p (get_or xs k d) ≡ false)
    → ((k : ℕ) (d : R) → i ≤ k → k < i + n → k < length xs → p (get_or xs k d) ≡ true)
    → ((k : ℕ) (d : R) → i + n ≤ k → k < length xs → p (get_or xs k d) ≡ false)
    → take n (drop i xs) ≡ filter p xs
stand_together p [] zero zero before here after = refl
stand_together p [] zero (suc n) before here after = refl
stand_together p [] (suc i) zero before here after = refl
stand_together p [] (suc i) (suc n) before here after = refl
stand_together p (x ∷ xs) (suc i) n before here after =
    stand_together p xs i n (λ k d l. before (suc k) d (omega arith)) (λ k d l m h. here (suc k) d (omega arith) (omega arith) (omega arith)) (λ k d l h. after (suc k) d (omega arith) (omega arith))
    ∙ sym (cond-false (p x) (x ∷ filter p xs) (filter p xs) (before 0 x (omega arith)))
stand_together p (x ∷ xs) zero (suc n) before here after =
    ap (λ (ys : List _). x ∷ ys) (stand_together p xs zero n (λ k d l. absurd (omega arith)) (λ k d l m h. here (suc k) d (omega arith) (omega arith) (omega arith)) (λ k d l h. after (suc k) d (omega arith) (omega arith)))
    ∙ sym (cond-true (p x) (x ∷ filter p xs) (filter p xs) (here 0 x (omega arith) (omega arith) (omega arith)))
stand_together p (x ∷ xs) zero zero before here after =
    stand_together p xs zero zero (λ k d l. absurd (omega arith)) (λ k d l m h. absurd (omega arith)) (λ k d l h. after (suc k) d (omega arith) (omega arith))
    ∙ sym (cond-false (p x) (x ∷ filter p xs) (filter p xs) (after 0 x (omega arith) (omega arith)))

module _ {R : Type 0} (key : R → ℕ) where
  -- where one search ends below `low`, and another beyond `high`
  pub range_is : (xs : List R) (low high i j : ℕ)
      → IsPartitionPoint (λ x. ltb (key x) low ≡ true) (λ x. ltb (key x) low ≡ false) xs i
      → IsPartitionPoint (λ x. ltb (key x) (high + 1) ≡ true) (λ x. ltb (key x) (high + 1) ≡ false) xs j
      → take (max j i - i) (drop i xs) ≡ ranked_between key low high xs
  range_is xs low high i j from to =
      stand_together (λ x. leb low (key x) && leb (key x) high) xs i (max j i - i)
      (λ k d l. and_left _ _ (lt-leb low _ (ltb-true _ low (from.0 k d (omega arith) l))))
      (λ k d l m h. and_from _ _ (le-leb low _ (ltb-false _ low (from.1 k d l h))) (le-leb _ high (omega (arith, ltb-true _ (high + 1) (to.0 k d (omega arith) (omega arith))))))
      (λ k d l h. and_right _ _ (lt-leb _ high (omega (arith, ltb-false _ (high + 1) (to.1 k d (omega arith) h)))))
