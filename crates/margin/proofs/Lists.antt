-- Tests, filters and members of lists.
use Rattle.std.proofs.Common.{◌≡◌, ℕ, zero, suc, ◌<◌, Bool, true, false, cond, ◌||◌, ◌⊎◌, List, [], ◌∷◌, ◌++◌, length, get_or, filter, sym, refl, ap, ◌∙◌, subst, ap₂, inl, inr, ⊎_elim, arith}
use Rattle.std.specs.List.{ContainsAt as Has, AllByRecursion}
use Rattle.std.proofs.lemmas.Bool.{cond_both, or_parts, or_cases, or_left, or_right, both_ways}
use Rattle.margin.specs.Numbers.{any}

pub by_test : {P : Type 0} (b : Bool) → (b ≡ true → P) → (b ≡ false → P) → P
by_test true f g = f refl
by_test false f g = g refl

-- ---- members
pub has_here : {X : Type 0} (x : X) (xs : List X) → Has (x ∷ xs) x
has_here x xs = (0, omega arith, λ d. refl)

pub has_there : {X : Type 0} (y x : X) (xs : List X) → Has xs x → Has (y ∷ xs) x
has_there y x xs h = (suc h.0, omega (arith, h.1), λ d. h.2 d)

has_at : {X : Type 0} (y x : X) (xs : List X) (k : ℕ) → k < length (y ∷ xs) → ((d : X) → get_or (y ∷ xs) k d ≡ x) → (y ≡ x) ⊎ Has xs x
has_at y x xs zero l e = inl (e y)
has_at y x xs (suc k) l e = inr (k, omega arith, λ d. e d)

pub has_cases : {X : Type 0} (y x : X) (xs : List X) → Has (y ∷ xs) x → (y ≡ x) ⊎ Has xs x
has_cases y x xs h = has_at y x xs h.0 h.1 h.2

pub has_none : {X : Type 0} (x : X) → Has [] x → ⊥
has_none x h = omega (arith, h.1)

module _ {X : Type 0} (t : X → Bool) where
  pub kept_same : (xs : List X) → AllByRecursion (λ x. t x ≡ true) xs → filter t xs ≡ xs
  kept_same [] a = refl
  kept_same (x ∷ xs) a = rw a.0 (ap (λ l. x ∷ l) (kept_same xs a.1))

  pub kept_none : (xs : List X) → AllByRecursion (λ x. t x ≡ false) xs → filter t xs ≡ []
  kept_none [] a = refl
  kept_none (x ∷ xs) a = rw a.0 (kept_none xs a.1)

  pub any_none : (xs : List X) → AllByRecursion (λ x. t x ≡ false) xs → any t xs ≡ false
  any_none [] a = refl
  any_none (x ∷ xs) a = rw a.0 (any_none xs a.1)

  pub none_any : (xs : List X) → any t xs ≡ false → AllByRecursion (λ x. t x ≡ false) xs
  none_any [] e = tt
  none_any (x ∷ xs) e = let p = or_parts (t x) (any t xs) e in (p.0, none_any xs p.1)

  pub any_has : (xs : List X) → any t xs ≡ true → (x : X) × Has xs x × (t x ≡ true)
  any_has [] e = absurd (both_ways false refl e)
  any_has (x ∷ xs) e = ⊎_elim (λ a. (x, has_here x xs, a)) (λ b. let p = any_has xs b in (p.0, has_there x p.0 xs p.1, p.2)) (or_cases (t x) (any t xs) e)

  pub has_any : (xs : List X) (x : X) → Has xs x → t x ≡ true → any t xs ≡ true
  has_any [] x h e = absurd (has_none x h)
  has_any (y ∷ xs) x h e = ⊎_elim (λ s. or_left (t y) (any t xs) (ap t s ∙ e)) (λ r. or_right (t y) (any t xs) (has_any xs x r e)) (has_cases y x xs h)

  pub has_kept : (xs : List X) (x : X) → Has xs x → t x ≡ true → Has (filter t xs) x
  has_kept [] x h e = absurd (has_none x h)
  has_kept (y ∷ xs) x h e =
      ⊎_elim
      (λ s. let f : t y ≡ true = ap t s ∙ e in rw f (subst (λ z. Has (z ∷ filter t xs) x) (sym s) (has_here x (filter t xs))))
      (λ r. cond_both (t y) (y ∷ filter t xs) (filter t xs) (λ l. Has l x) (λ _. has_there y x (filter t xs) (has_kept xs x r e)) (λ _. has_kept xs x r e))
      (has_cases y x xs h)

pub has_append : {X : Type 0} (xs ys : List X) (x : X) → Has (xs ++ ys) x → Has xs x ⊎ Has ys x
has_append [] ys x h = inr h
has_append (y ∷ xs) ys x h = ⊎_elim (λ s. inl (subst (λ z. Has (z ∷ xs) x) (sym s) (has_here x xs))) (λ r. ⊎_elim (λ a. inl (has_there y x xs a)) (λ b. inr b) (has_append xs ys x r)) (has_cases y x (xs ++ ys) h)

pub all_both : {X : Type 0} (P Q : X → Type 0) (xs : List X) → AllByRecursion P xs → AllByRecursion Q xs → AllByRecursion (λ x. P x × Q x) xs
all_both P Q [] a b = tt
all_both P Q (x ∷ xs) a b = ((a.0, b.0), all_both P Q xs a.1 b.1)

pub all_from_has : {X : Type 0} (P : X → Type 0) (xs : List X) → ((x : X) → Has xs x → P x) → AllByRecursion P xs
all_from_has P [] f = tt
all_from_has P (x ∷ xs) f = (f x (has_here x xs), all_from_has P xs (λ y h. f y (has_there x y xs h)))

pub kept_swap : {X : Type 0} (s t : X → Bool) (xs : List X) → filter s (filter t xs) ≡ filter t (filter s xs)
kept_swap s t [] = refl
kept_swap s t (x ∷ xs) =
    by_test (t x)
    (λ b. by_test (s x) (λ a. rw (b, a, b) (ap (λ l. x ∷ l) (kept_swap s t xs))) (λ a. rw (b, a) (kept_swap s t xs)))
    (λ b. by_test (s x) (λ a. rw (b, a, b) (kept_swap s t xs)) (λ a. rw (b, a) (kept_swap s t xs)))

pub kept_like : {X : Type 0} (s t : X → Bool) (xs : List X) → AllByRecursion (λ x. s x ≡ t x) xs → filter s xs ≡ filter t xs
kept_like s t [] a = refl
kept_like s t (x ∷ xs) a = rw a.0 (ap (cond (t x) (x ∷ filter s xs)) (kept_like s t xs a.1) ∙ ap (λ l. cond (t x) (x ∷ l) (filter t xs)) (kept_like s t xs a.1))

pub any_like : {X : Type 0} (s t : X → Bool) (xs : List X) → AllByRecursion (λ x. s x ≡ t x) xs → any s xs ≡ any t xs
any_like s t [] a = refl
any_like s t (x ∷ xs) a = ap₂ ◌||◌ a.0 (any_like s t xs a.1)
