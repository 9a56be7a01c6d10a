-- What the shifts of a table leave in its used places.
use Rattle.std.proofs.Common.{◌≡◌, ℕ, suc, ◌+◌, ◌-◌, ◌<◌, ◌≤◌, List, [], ◌∷◌, ◌++◌, length, take, drop, set, sym, ap, ◌∙◌, add-one, arith}
use borrow.Rule.Slice.PartMut.{put_mid}
use Rattle.std.specs.List.{insert, remove, between}
use Rattle.std.proofs.lemmas.List.{append_assoc, length-take-le, length-set, length_push, length-drop, length-append, take_more_set, take-set-le, take-take, take_at, drop_at, drop-append-le, drop-set-lt, drop-drop}
use Rattle.std.proofs.lemmas.List.Edits.{length-between}
use Rattle.std.proofs.lemmas.Slice.{between_is, take-put_mid, drop-put_mid}

-- a list that is turned by one
pub turned_right : {X : Type 0} (zs : List X) (x : X) (part : List X) → part ≡ zs ++ x ∷ [] → drop (length part - 1) part ++ take (length part - 1) part ≡ x ∷ zs
turned_right zs x part e =
    let n : length zs ≡ length part - 1 = omega (arith, length_push zs x, ap length e) in
    let a : drop (length part - 1) part ≡ x ∷ [] = ap (drop (length part - 1)) e ∙ drop_at zs (x ∷ []) _ n in
    let b : take (length part - 1) part ≡ zs = ap (take (length part - 1)) e ∙ take_at zs (x ∷ []) _ n in
    cc

module _ {X : Type 0} (xs : List X) (used at : ℕ) (x : X) (fits : used < length xs) (place : at ≤ used) where
  -- the part that `add` turns: one more record, put at its end
  last_part : between at (used + 1) (set xs used x) ≡ drop at (take used xs) ++ x ∷ []
  last_part =
      let le : at ≤ length (take used xs) = omega (arith, length-take-le used xs (omega arith)) in
      between_is (set xs used x) at (used + 1)
      ∙ ap (drop at) (take_more_set xs used x fits)
      ∙ drop-append-le at (take used xs) (x ∷ []) le

  pub added_used : (ys : List X) → ys ≡ x ∷ drop at (take used xs) → take (used + 1) (put_mid at (used + 1 - at) (set xs used x) ys) ≡ insert (take used xs) at x
  added_used ys e =
      let n : length ys ≡ used + 1 - at = omega (arith, ap length e, length-drop at (take used xs), length-take-le used xs (omega arith)) in
      take-put_mid at (used + 1 - at) (set xs used x) ys (used + 1) (omega arith) (omega (arith, length-set xs used x))
      ∙ ap (λ (zs : List X). take at (set xs used x) ++ zs) e
      ∙ ap (λ (zs : List X). zs ++ x ∷ drop at (take used xs)) (take-set-le at xs used x place ∙ sym (take-take at used xs place))

  pub added_free : (ys : List X) → length ys ≡ used + 1 - at → drop (used + 1) (put_mid at (used + 1 - at) (set xs used x) ys) ≡ drop (used + 1) xs
  added_free ys n =
      drop-put_mid at (used + 1 - at) (set xs used x) ys (used + 1) (omega arith) (omega (arith, length-set xs used x)) n
      ∙ drop-set-lt (used + 1) xs used x (omega arith)

  pub added : (ys : List X) → ys ≡ drop (length (between at (used + 1) (set xs used x)) - 1) (between at (used + 1) (set xs used x)) ++ take (length (between at (used + 1) (set xs used x)) - 1) (between at (used + 1) (set xs used x))
      → (take (used + 1) (put_mid at (used + 1 - at) (set xs used x) ys) ≡ insert (take used xs) at x) × (drop (used + 1) (put_mid at (used + 1 - at) (set xs used x) ys) ≡ drop (used + 1) xs)
  added ys e =
      let f : ys ≡ x ∷ drop at (take used xs) = e ∙ turned_right (drop at (take used xs)) x (between at (used + 1) (set xs used x)) last_part in
      let n : length ys ≡ used + 1 - at = omega (arith, ap length f, length-drop at (take used xs), length-take-le used xs (omega arith)) in
      (added_used ys f, added_free ys n)

module _ {X : Type 0} (xs : List X) (used at : ℕ) (within : used ≤ length xs) (place : at < used) where
  pub dropped : (ys : List X) → ys ≡ drop 1 (between at used xs) ++ take 1 (between at used xs)
      → (take (used - 1) (put_mid at (used - at) xs ys) ≡ remove (take used xs) at) × (drop used (put_mid at (used - at) xs ys) ≡ drop used xs)
  dropped ys e =
      let part : List X = between at used xs in
      let np : length (between at used xs) ≡ used - at = length-between xs at used within in
      let nt : length (take used xs) ≡ used = length-take-le used xs within in
      let na : length (take at xs) ≡ at = length-take-le at xs (omega arith) in
      let rest : drop 1 (between at used xs) ≡ drop (suc at) (take used xs) = ap (drop 1) (between_is xs at used) ∙ drop-drop 1 at (take used xs) ∙ ap (λ (n : ℕ). drop n (take used xs)) (add-one at) in
      let nr : length (drop (suc at) (take used xs)) ≡ used - 1 - at = omega (arith, length-drop (suc at) (take used xs)) in
      let front : length (take at xs ++ drop (suc at) (take used xs)) ≡ used - 1 = omega (arith, length-append (take at xs) (drop (suc at) (take used xs))) in
      let tail : List X = take 1 (between at used xs) ++ drop (used - at) (drop at xs) in
      let ny : length ys ≡ used - at = omega (arith, ap length e, length-append (drop 1 (between at used xs)) (take 1 (between at used xs)), length-drop 1 (between at used xs), length-take-le 1 (between at used xs) (omega arith)) in (
        ap (λ (zs : List X). take (used - 1) (put_mid at (used - at) xs zs)) (e ∙ ap (λ (zs : List X). zs ++ take 1 (between at used xs)) rest)
            ∙ ap (take (used - 1)) (simp append_assoc)
            ∙ take_at (take at xs ++ drop (suc at) (take used xs)) tail (used - 1) front
            ∙ ap (λ (zs : List X). zs ++ drop (suc at) (take used xs)) (sym (take-take at used xs (omega arith))),
        drop-put_mid at (used - at) xs ys used (omega arith) (omega arith) ny,
      )
