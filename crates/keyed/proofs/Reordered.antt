-- What the same records in another order share.
use Rattle.std.proofs.Common.{◌≡◌, suc, Bool, true, false, cond, List, [], ◌∷◌, ◌++◌, map, length, filter, sym, refl, ap, ◌∙◌, subst}
use Rattle.std.specs.List.{ContainsAt as Has, AllByRecursion}
use Rattle.std.proofs.ByRecursion.{all-has, all_has_itself}
use Rattle.keyed.specs.Reordered.{Reordered, nothing, keeping, swapping, again}

module _ {X : Type 0} where
  pub reordered_refl : (xs : List X) → Reordered xs xs
  reordered_refl [] = nothing
  reordered_refl (x ∷ xs) = keeping x (reordered_refl xs)

  pub reordered_sym : {xs ys : List X} → Reordered xs ys → Reordered ys xs
  reordered_sym nothing = nothing
  reordered_sym (keeping x r) = keeping x (reordered_sym r)
  reordered_sym (swapping x y xs) = swapping y x xs
  reordered_sym (again r s) = again (reordered_sym s) (reordered_sym r)

  pub reordered_from_eq : {xs ys : List X} → xs ≡ ys → Reordered xs ys
  reordered_from_eq {xs} e = subst (λ (l : List X). Reordered xs l) e (reordered_refl xs)

  -- the first record moved behind those of xs
  pub front : (x : X) (xs ys : List X) → Reordered (x ∷ (xs ++ ys)) (xs ++ (x ∷ ys))
  front x [] ys = reordered_refl (x ∷ ys)
  front x (y ∷ xs) ys = again (swapping x y (xs ++ ys)) (keeping y (front x xs ys))

  pub reordered_append : (zs : List X) {xs ys : List X} → Reordered xs ys → Reordered (zs ++ xs) (zs ++ ys)
  reordered_append [] r = r
  reordered_append (z ∷ zs) r = keeping z (reordered_append zs r)

  -- what is made record by record, where any two may change places
  pub reordered_same : {Y : Type 0} (f : List X → Y) (step : X → Y → Y) → ((x : X) (xs : List X) → f (x ∷ xs) ≡ step x (f xs)) → ((x y : X) (z : Y) → step x (step y z) ≡ step y (step x z)) → {xs ys : List X} → Reordered xs ys → f xs ≡ f ys
  reordered_same f step is turns nothing = refl
  reordered_same f step is turns (keeping x {xs} {ys} r) = is x xs ∙ ap (step x) (reordered_same f step is turns r) ∙ sym (is x ys)
  reordered_same f step is turns (swapping x y xs) = is x (y ∷ xs) ∙ ap (step x) (is y xs) ∙ turns x y (f xs) ∙ ap (step y) (sym (is x xs)) ∙ sym (is y (x ∷ xs))
  reordered_same f step is turns (again r s) = reordered_same f step is turns r ∙ reordered_same f step is turns s

  pub reordered_length : {xs ys : List X} → Reordered xs ys → length xs ≡ length ys
  reordered_length r = reordered_same length (λ _ n. suc n) (λ x xs. refl) (λ x y n. refl) r

  pub reordered_map : {Y : Type 0} (f : X → Y) {xs ys : List X} → Reordered xs ys → Reordered (map f xs) (map f ys)
  reordered_map f nothing = nothing
  reordered_map f (keeping x r) = keeping (f x) (reordered_map f r)
  reordered_map f (swapping x y xs) = swapping (f x) (f y) (map f xs)
  reordered_map f (again r s) = again (reordered_map f r) (reordered_map f s)

  -- ---- those that pass a test
  kept_keeping : (b : Bool) (x : X) {xs ys : List X} → Reordered xs ys → Reordered (cond b (x ∷ xs) xs) (cond b (x ∷ ys) ys)
  kept_keeping true x r = keeping x r
  kept_keeping false x r = r

  kept_swapping : (b c : Bool) (x y : X) (xs : List X) → Reordered (cond b (x ∷ cond c (y ∷ xs) xs) (cond c (y ∷ xs) xs)) (cond c (y ∷ cond b (x ∷ xs) xs) (cond b (x ∷ xs) xs))
  kept_swapping true true x y xs = swapping x y xs
  kept_swapping true false x y xs = reordered_refl (x ∷ xs)
  kept_swapping false true x y xs = reordered_refl (y ∷ xs)
  kept_swapping false false x y xs = reordered_refl xs

  pub reordered_kept : (t : X → Bool) {xs ys : List X} → Reordered xs ys → Reordered (filter t xs) (filter t ys)
  reordered_kept t nothing = nothing
  reordered_kept t (keeping x r) = kept_keeping (t x) x (reordered_kept t r)
  reordered_kept t (swapping x y xs) = kept_swapping (t x) (t y) x y (filter t xs)
  reordered_kept t (again r s) = again (reordered_kept t r) (reordered_kept t s)

  -- ---- what holds of each, and which they are
  pub reordered_all : (P : X → Type 0) {xs ys : List X} → Reordered xs ys → AllByRecursion P xs → AllByRecursion P ys
  reordered_all P nothing a = a
  reordered_all P (keeping x r) (p, a) = (p, reordered_all P r a)
  reordered_all P (swapping x y xs) (p, (q, a)) = (q, (p, a))
  reordered_all P (again r s) a = reordered_all P s (reordered_all P r a)

  pub reordered_has : {xs ys : List X} (x : X) → Reordered xs ys → Has xs x → Has ys x
  reordered_has {xs} {ys} x r h = all-has (Has ys) xs x (reordered_all (Has ys) (reordered_sym r) (all_has_itself ys)) h
