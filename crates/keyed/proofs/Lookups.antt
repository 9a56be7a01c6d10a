-- Look-ups in lists whose keys rise: after each edit, and that they say which list it is.
use Rattle.std.proofs.Common.{◌≡◌, ℕ, zero, suc, ◌+◌, ◌-◌, ◌<◌, ◌≤◌, cond, eqb, List, [], ◌∷◌, length, get_or, set, Some, None, Option, sym, refl, ap, ◌∙◌, subst, inl, inr, arith}
use Rattle.std.specs.List.{insert, remove, ContainsAt as Has}
use Rattle.std.proofs.lemmas.List.{length-set, get_or-set_same, get_or-set_other, get_or_default}
use Rattle.std.proofs.lemmas.List.Edits.{length-insert, length-remove, get_or-insert_below, get_or-insert_at, get_or-insert_above, get_or-remove_below, get_or-remove_above}
use Rattle.std.proofs.lemmas.Bool.Decides.{nat_tests}
use Rattle.std.proofs.lemmas.Bool.{cases_lt, cases_order, eq-eqb, cond-true}
use Rattle.keyed.proofs.Far.{Far, far, near}
use Rattle.keyed.specs.Rows.{Rising, lookup, Stands, Gap}

-- two tests of q that do not both pass can be made in either order
pub swap : {Y : Type 0} (q a b : ℕ) (u v w : Y) → (a ≡ b → ⊥) → cond (eqb q a) u (cond (eqb q b) v w) ≡ cond (eqb q b) v (cond (eqb q a) u w)
swap q a b u v w apart = grind (arith, nat_tests, apart)

-- f with w at k
abbrev pub written : {R : Type 0} → (ℕ → Option R) → ℕ → Option R → ℕ → Option R
written f k w q = cond (eqb q k) w (f q)

pub written_here : {R : Type 0} (f : ℕ → Option R) (k : ℕ) (w : Option R) → written f k w k ≡ w
written_here f k w = grind (arith, nat_tests)

pub written_apart : {R : Type 0} (f : ℕ → Option R) (k : ℕ) (w : Option R) (q : ℕ) → (q ≡ k → ⊥) → written f k w q ≡ f q
written_apart f k w q ne = grind (arith, nat_tests, ne)

module _ {R : Type 0} (key : R → ℕ) where
  -- no record has the key q
  abbrev Apart : List R → ℕ → Type 0
  Apart xs q = (k : ℕ) (d : R) → k < length xs → q ≡ key (get_or xs k d) → ⊥

  pub rest : (x : R) (xs : List R) → Rising key (x ∷ xs) → Rising key xs
  rest x xs up k d h = up (suc k) d (omega arith)

  pub first : (x : R) (xs : List R) → Rising key (x ∷ xs) → (k : ℕ) (d : R) → k < length xs → key x < key (get_or xs k d)
  first x xs up k d h = far key (x ∷ xs) up 0 (suc k) d (omega arith) (omega arith)

  pub lookup_none : (xs : List R) (q : ℕ) → Apart xs q → lookup key xs q ≡ None
  lookup_none [] q h = refl
  lookup_none (x ∷ xs) q h = grind (arith, nat_tests, h 0 x (omega arith), lookup_none xs q (λ k d l. h (suc k) d (omega arith)))

  -- a record is found under its own key alone
  pub lookup_key : (xs : List R) (q : ℕ) (x : R) → lookup key xs q ≡ Some x → key x ≡ q
  lookup_key [] q x e = let z : ◌≡◌ {A = ℕ} 0 1 = cc in absurd (omega arith)
  lookup_key (y ∷ ys) q x e = grind (arith, nat_tests, lookup_key ys q x)

  pub lookup_at : (xs : List R) (i : ℕ) (d : R) → Rising key xs → i < length xs → lookup key xs (key (get_or xs i d)) ≡ Some (get_or xs i d)
  lookup_at [] i d up h = absurd (omega arith)
  lookup_at (x ∷ xs) zero d up h = grind (arith, nat_tests)
  lookup_at (x ∷ xs) (suc i) d up h = grind (arith, nat_tests, first x xs up i d (omega arith), lookup_at xs i d (rest x xs up) (omega arith))

  pub lookup_has : (xs : List R) (x : R) → Rising key xs → Has xs x → lookup key xs (key x) ≡ Some x
  lookup_has xs x up h = subst (λ (y : R). lookup key xs (key y) ≡ Some y) (h.2 x) (lookup_at xs h.0 x up h.1)

  pub lookup_stands : (xs : List R) (q i : ℕ) (d : R) → Rising key xs → Stands key xs q i → lookup key xs q ≡ Some (get_or xs i d)
  lookup_stands xs q i d up s = ap (lookup key xs) (sym (s.here d)) ∙ lookup_at xs i d up s.within

  pub apart_gap : (xs : List R) (q i : ℕ) → Gap key xs q i → Apart xs q
  apart_gap xs q i g k d h e = elim (cases_lt k i) [ inl l ↦ omega (arith, g.below k d l) | inr l ↦ omega (arith, g.above k d l h) ]

  pub lookup_gap : (xs : List R) (q i : ℕ) → Gap key xs q i → lookup key xs q ≡ None
  lookup_gap xs q i g = lookup_none xs q (apart_gap xs q i g)

  -- ---- one record more
  pub lookup_insert : (xs : List R) (i : ℕ) (x : R) (q : ℕ) → i ≤ length xs → Apart xs (key x) → lookup key (insert xs i x) q ≡ written (lookup key xs) (key x) (Some x) q
  lookup_insert xs zero x q le h = refl
  lookup_insert [] (suc i) x q le h = absurd (omega arith)
  lookup_insert (y ∷ ys) (suc i) x q le h = grind (arith, nat_tests, h 0 y (omega arith), lookup_insert ys i x q (omega arith) (λ k d l. h (suc k) d (omega arith)))

  pub lookup_inserted : (xs : List R) (i : ℕ) (x : R) (q : ℕ) → Gap key xs (key x) i → lookup key (insert xs i x) q ≡ written (lookup key xs) (key x) (Some x) q
  lookup_inserted xs i x q g = lookup_insert xs i x q g.within (apart_gap xs (key x) i g)

  inserted_above : (xs : List R) (i : ℕ) (x d : R) (k : ℕ) → i < k → i ≤ length xs → get_or (insert xs i x) k d ≡ get_or xs (k - 1) d
  inserted_above xs i x d k l le =
      let e : k - 1 + 1 ≡ k = omega arith in
      ap (λ (n : ℕ). get_or (insert xs i x) n d) (sym e) ∙ get_or-insert_above xs i x d (k - 1) (omega arith) le

  far_inserted : (xs : List R) (at : ℕ) (x : R) → Far key xs → Gap key xs (key x) at → Far key (insert xs at x)
  far_inserted xs at x up g i j d l h =
      let le : at ≤ length xs = g.within in
      let n : length (insert xs at x) ≡ length xs + 1 = length-insert xs at x le in
      let here : key (get_or (insert xs at x) at d) ≡ key x = ap key (get_or-insert_at xs at x d le) in
      elim (cases_order i at) [
        | inl e ↦
            let a : key (get_or (insert xs at x) i d) ≡ key x = ap (λ (m : ℕ). key (get_or (insert xs at x) m d)) e ∙ here in
            omega (arith, ap key (inserted_above xs at x d j (omega arith) le), g.above (j - 1) d (omega arith) (omega arith))
        | inr (inl e) ↦
            let a : key (get_or (insert xs at x) i d) ≡ key (get_or xs i d) = ap key (get_or-insert_below xs at x d i e le) in
            elim (cases_order j at) [
              | inl f ↦ omega (arith, ap (λ (m : ℕ). key (get_or (insert xs at x) m d)) f, g.below i d e)
              | inr (inl f) ↦ omega (arith, ap key (get_or-insert_below xs at x d j f le), up i j d l (omega arith))
              | inr (inr f) ↦ omega (arith, ap key (inserted_above xs at x d j f le), up i (j - 1) d (omega arith) (omega arith))
            ]
        | inr (inr e) ↦
            omega (arith, ap key (inserted_above xs at x d i e le), ap key (inserted_above xs at x d j (omega arith) le), up (i - 1) (j - 1) d (omega arith) (omega arith))
      ]

  pub rising_inserted : (xs : List R) (at : ℕ) (x : R) → Rising key xs → Gap key xs (key x) at → Rising key (insert xs at x)
  rising_inserted xs at x up g = near key (insert xs at x) (far_inserted xs at x (far key xs up) g)

  -- ---- one record less
  pub lookup_remove : (xs : List R) (i : ℕ) (d : R) (q : ℕ) → Rising key xs → i < length xs → lookup key (remove xs i) q ≡ written (lookup key xs) (key (get_or xs i d)) None q
  lookup_remove [] i d q up h = absurd (omega arith)
  lookup_remove (x ∷ xs) zero d q up h = grind (arith, nat_tests, λ (e : q ≡ key x). lookup_none xs q (λ k d l p. omega (arith, first x xs up k d l)))
  lookup_remove (x ∷ xs) (suc i) d q up h = grind (arith, nat_tests, first x xs up i d (omega arith), lookup_remove xs i d q (rest x xs up) (omega arith))

  far_removed : (xs : List R) (at : ℕ) → Far key xs → at < length xs → Far key (remove xs at)
  far_removed xs at up in' i j d l h =
      let n : length (remove xs at) + 1 ≡ length xs = length-remove xs at in' in
      elim (cases_lt i at) [
        | inl e ↦
            elim (cases_lt j at) [
              | inl f ↦ omega (arith, ap key (get_or-remove_below xs at d i e in'), ap key (get_or-remove_below xs at d j f in'), up i j d l (omega arith))
              | inr f ↦ omega (arith, ap key (get_or-remove_below xs at d i e in'), ap key (get_or-remove_above xs at d j f in'), up i (j + 1) d (omega arith) (omega arith))
            ]
        | inr e ↦ omega (arith, ap key (get_or-remove_above xs at d i e in'), ap key (get_or-remove_above xs at d j (omega arith) in'), up (i + 1) (j + 1) d (omega arith) (omega arith))
      ]

  pub rising_removed : (xs : List R) (at : ℕ) → Rising key xs → at < length xs → Rising key (remove xs at)
  rising_removed xs at up in' = near key (remove xs at) (far_removed xs at (far key xs up) in')

  -- ---- a record in the place of one with its key
  pub lookup_replace : (xs : List R) (i : ℕ) (x : R) (q : ℕ) → Rising key xs → i < length xs → key (get_or xs i x) ≡ key x → lookup key (set xs i x) q ≡ written (lookup key xs) (key x) (Some x) q
  lookup_replace [] i x q up h e = absurd (omega arith)
  lookup_replace (y ∷ ys) zero x q up h e = grind (arith, nat_tests)
  lookup_replace (y ∷ ys) (suc i) x q up h e = grind (arith, nat_tests, first y ys up i x (omega arith), lookup_replace ys i x q (rest y ys up) (omega arith) e)

  far_replaced : (xs : List R) (at : ℕ) (x : R) → Far key xs → at < length xs → key (get_or xs at x) ≡ key x → Far key (set xs at x)
  far_replaced xs at x up in' same i j d l h =
      let n : length (set xs at x) ≡ length xs = length-set xs at x in
      let kept : (k : ℕ) → key (get_or (set xs at x) k d) ≡ key (get_or xs k d) =
      λ k. elim (cases_order k at) [
        | inl e ↦ ap (λ (m : ℕ). key (get_or (set xs at x) m d)) e ∙ ap key (get_or-set_same xs at x d in') ∙ sym same ∙ ap key (get_or_default xs at x d in') ∙ ap (λ (m : ℕ). key (get_or xs m d)) (sym e)
        | inr (inl e) ↦ ap key (get_or-set_other xs at k x d (λ f. omega arith))
        | inr (inr e) ↦ ap key (get_or-set_other xs at k x d (λ f. omega arith))
      ] in
      omega (arith, kept i, kept j, up i j d l (omega arith))

  pub rising_replaced : (xs : List R) (at : ℕ) (x : R) → Rising key xs → at < length xs → key (get_or xs at x) ≡ key x → Rising key (set xs at x)
  rising_replaced xs at x up in' same = near key (set xs at x) (far_replaced xs at x (far key xs up) in' same)

  -- ---- the look-ups say which list it is
  pub before : (y : R) (ys : List R) (q : ℕ) → Rising key (y ∷ ys) → q < key y → Apart (y ∷ ys) q
  before y ys q up l zero d h e = omega arith
  before y ys q up l (suc k) d h e = omega (arith, first y ys up k d (omega arith))

  -- the first record taken off, the other look-ups are those of the rest
  rest_lookup : (x : R) (xs : List R) (q : ℕ) → Rising key (x ∷ xs) → lookup key xs q ≡ cond (eqb q (key x)) None (lookup key (x ∷ xs) q)
  rest_lookup x xs q up = lookup_remove (x ∷ xs) 0 x q up (omega arith)

  pub same_lookups : (xs ys : List R) → Rising key xs → Rising key ys → ((q : ℕ) → lookup key xs q ≡ lookup key ys q) → xs ≡ ys
  same_lookups [] [] up vp h = refl
  same_lookups [] (y ∷ ys) up vp h =
      let a : None ≡ Some y = h (key y) ∙ lookup_at (y ∷ ys) 0 y vp (omega arith) in
      let z : ◌≡◌ {A = ℕ} 0 1 = cc in absurd (omega arith)
  same_lookups (x ∷ xs) [] up vp h =
      let a : Some x ≡ None = sym (lookup_at (x ∷ xs) 0 x up (omega arith)) ∙ h (key x) in
      let z : ◌≡◌ {A = ℕ} 0 1 = cc in absurd (omega arith)
  same_lookups (x ∷ xs) (y ∷ ys) up vp h =
      let a : Some x ≡ lookup key (y ∷ ys) (key x) = sym (lookup_at (x ∷ xs) 0 x up (omega arith)) ∙ h (key x) in
      let b : lookup key (x ∷ xs) (key y) ≡ Some y = h (key y) ∙ lookup_at (y ∷ ys) 0 y vp (omega arith) in
      elim (cases_order (key x) (key y)) [
        | inl e ↦
            let s : Some x ≡ Some y = a ∙ cond-true (eqb (key x) (key y)) (Some y) (lookup key ys (key x)) (eq-eqb (key x) (key y) e) in
            let f : x ≡ y = cc in
            let t : xs ≡ ys = same_lookups xs ys (rest x xs up) (rest y ys vp)
            (λ q. rest_lookup x xs q up ∙ ap (λ (n : ℕ). cond (eqb q n) None (lookup key (x ∷ xs) q)) e ∙ ap (λ (w : Option R). cond (eqb q (key y)) None w) (h q) ∙ sym (rest_lookup y ys q vp)) in
            cc
        | inr (inl l) ↦
            let n : lookup key (y ∷ ys) (key x) ≡ None = lookup_none (y ∷ ys) (key x) (before y ys (key x) vp l) in
            let z : ◌≡◌ {A = ℕ} 0 1 = cc in absurd (omega arith)
        | inr (inr l) ↦
            let n : lookup key (x ∷ xs) (key y) ≡ None = lookup_none (x ∷ xs) (key y) (before x xs (key y) up l) in
            let z : ◌≡◌ {A = ℕ} 0 1 = cc in absurd (omega arith)
      ]
