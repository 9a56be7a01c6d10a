-- The edits of a table's places, as one function of its records; and its keys.
use Rattle.std.proofs.Common.{◌≡◌, ℕ, zero, suc, ◌<◌, true, eqb, List, [], ◌∷◌, map, length, get_or, set, is_some, Some, None, sym, refl, ap, ◌∙◌, inl, inr, arith}
use Rattle.std.specs.List.{insert, remove, ContainsAt as Has}
use Rattle.std.proofs.lemmas.List.{length-map, get_or-map}
use Rattle.std.proofs.lemmas.Bool.Decides.{nat_tests}
use Rattle.std.proofs.lemmas.Bool.{cases_Bool, eqb-true, cond-false}
use Rattle.keyed.specs.Rows.{Rising, lookup, Stands, Gap, with_row, without, Counted}
use Rattle.keyed.proofs.Lookups.{rest, first, lookup_at}

module _ {R : Type 0} (key : R → ℕ) where
  -- ---- `with_row` at a record's key and the first one's
  pub with_less : (x y : R) (ys : List R) → key x < key y → with_row key (y ∷ ys) x ≡ x ∷ y ∷ ys
  with_less x y ys l = grind (arith, nat_tests)

  pub with_same : (x y : R) (ys : List R) → key x ≡ key y → with_row key (y ∷ ys) x ≡ x ∷ ys
  with_same x y ys e = grind (arith, nat_tests)

  pub with_more : (x y : R) (ys : List R) → key y < key x → with_row key (y ∷ ys) x ≡ y ∷ with_row key ys x
  with_more x y ys l = grind (arith, nat_tests)

  -- ---- the places' edits
  pub inserted_is : (xs : List R) (at : ℕ) (x : R) → Gap key xs (key x) at → insert xs at x ≡ with_row key xs x
  inserted_is [] zero x g = refl
  inserted_is [] (suc at) x g = absurd (omega (arith, g.within))
  inserted_is (y ∷ ys) zero x g = grind (arith, nat_tests, g.above 0 y (omega arith) (omega arith))
  inserted_is (y ∷ ys) (suc at) x g =
      let h : Gap key ys (key x) at = record { within = omega (arith, g.within); below = λ k d l. g.below (suc k) d (omega arith); above = λ k d l m. g.above (suc k) d (omega arith) (omega arith) } in
      grind (arith, nat_tests, g.below 0 y (omega arith), inserted_is ys at x h)

  pub replaced_is : (xs : List R) (at : ℕ) (x : R) → Rising key xs → Stands key xs (key x) at → set xs at x ≡ with_row key xs x
  replaced_is [] at x up s = absurd (omega (arith, s.within))
  replaced_is (y ∷ ys) zero x up s = grind (arith, nat_tests, s.here y)
  replaced_is (y ∷ ys) (suc at) x up s =
      let t : Stands key ys (key x) at = record { within = omega (arith, s.within); here = s.here } in
      let above : key y < key x = omega (arith, first key y ys up at y (omega (arith, s.within)), s.here y) in
      grind (arith, nat_tests, replaced_is ys at x (rest key y ys up) t)

  pub removed_is : (xs : List R) (q at : ℕ) → Rising key xs → Stands key xs q at → remove xs at ≡ without key xs q
  removed_is [] q at up s = absurd (omega (arith, s.within))
  removed_is (y ∷ ys) q zero up s = grind (arith, nat_tests, s.here y)
  removed_is (y ∷ ys) q (suc at) up s =
      let t : Stands key ys q at = record { within = omega (arith, s.within); here = s.here } in
      let above : key y < q = omega (arith, first key y ys up at y (omega (arith, s.within)), s.here y) in
      grind (arith, nat_tests, removed_is ys q at (rest key y ys up) t)

  pub without_none : (xs : List R) (q : ℕ) → lookup key xs q ≡ None → without key xs q ≡ xs
  without_none [] q h = refl
  without_none (y ∷ ys) q h = grind (arith, nat_tests, without_none ys q)

  -- ---- the keys
  has_key : (xs : List R) (q : ℕ) → is_some (lookup key xs q) ≡ true → Has (map key xs) q
  has_key [] q h = let z : ◌≡◌ {A = ℕ} 0 1 = cc in absurd (omega arith)
  has_key (y ∷ ys) q h =
      elim (cases_Bool (eqb q (key y))) [
        | inl s ↦ (0, omega arith, λ d. sym (eqb-true q (key y) s))
        | inr s ↦
            let p = has_key ys q (ap is_some (sym (cond-false (eqb q (key y)) (Some y) (lookup key ys q) s)) ∙ h) in
            (suc p.0, omega (arith, p.1), p.2)
      ]

  key_has : (xs : List R) (q : ℕ) → Rising key xs → Has (map key xs) q → is_some (lookup key xs q) ≡ true
  key_has [] q up p = absurd (omega (arith, p.1))
  key_has (y ∷ ys) q up p =
      let l : p.0 < length (y ∷ ys) = omega (arith, p.1, length-map (y ∷ ys) key) in
      let e : key (get_or (y ∷ ys) p.0 y) ≡ q = sym (get_or-map key (y ∷ ys) p.0 y 0 l) ∙ p.2 0 in
      ap is_some (ap (lookup key (y ∷ ys)) (sym e) ∙ lookup_at key (y ∷ ys) p.0 y up l)

  rise_keys : (xs : List R) → Rising key xs → Rising (λ n. n) (map key xs)
  rise_keys [] up k d h = absurd (omega arith)
  rise_keys (y ∷ ys) up k d h =
      let n = length-map (y ∷ ys) key in
      omega (arith, up k y (omega arith), get_or-map key (y ∷ ys) k y d (omega arith), get_or-map key (y ∷ ys) (suc k) y d (omega arith))

  pub counted : (xs : List R) → Rising key xs → Counted key xs
  counted xs up = record { many = length-map xs key; rise = rise_keys xs up; found = λ q. key_has xs q up; only = has_key xs }
