-- The rows in use are as many as there are at the most.
use Rattle.std.proofs.Common.{◌≡◌, ℕ, List, length, take, min, Result, ap, ◌∙◌, subst}
use Rattle.std.proofs.lemmas.List.{take_min}
use Rattle.keyed.specs.Rows.{Rising, Sought}
use Rattle.finding.specs.declared.Row.{Row}

pub in_use : (xs : List Row) (used n code : ℕ) (r : Result ℕ ℕ) → n ≡ min used (length xs) → (Rising (λ (x : Row). x.code) (take n xs) → Sought (λ (x : Row). x.code) (take n xs) code r) → Rising (λ (x : Row). x.code) (take used xs) → Sought (λ (x : Row). x.code) (take used xs) code r
in_use xs used n code r is = subst (λ (ys : List Row). Rising (λ (x : Row). x.code) ys → Sought (λ (x : Row). x.code) ys code r) (ap (λ (m : ℕ). take m xs) is ∙ take_min used xs)
