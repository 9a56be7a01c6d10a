-- A change of a list whose keys rise: the new record, put to those with other keys, in some order.
use Rattle.std.proofs.Common.{◌≡◌, ℕ, eqb, List, [], ◌∷◌, ◌++◌, Some, None, Option, sym, refl, ap, ◌∙◌, subst, inl, inr, arith}
use Rattle.std.specs.Option.{option_to_list}
use Rattle.std.proofs.lemmas.Bool.Decides.{nat_tests}
use Rattle.std.proofs.lemmas.Bool.{cases_order, eq-eqb, ne_eqb, cond-true, cond-false}
use Rattle.keyed.specs.Laws.{Under, Reordering, all_but}
use Rattle.keyed.specs.Reordered.{Reordered}
use Rattle.keyed.specs.Reordered.Reordered.{keeping, swapping, again}
use Rattle.keyed.specs.Rows.{Rising, with_row, without, put}
use Rattle.keyed.proofs.Lookups.{rest, first, before, lookup_none}
use Rattle.keyed.proofs.Reordered.{reordered_refl, reordered_from_eq}
use Rattle.keyed.proofs.Puts.{with_less, with_same, with_more, without_none}

module _ {R : Type 0} (key : R → ℕ) where
  -- where a record is taken out, no other has its key
  pub without_is : (xs : List R) (k : ℕ) → Rising key xs → without key xs k ≡ all_but key xs k
  without_is [] k up = refl
  without_is (y ∷ ys) k up =
      let none : k ≡ key y → without key ys k ≡ ys = λ e. without_none key ys k (lookup_none key ys k (λ i d h f. omega (arith, first key y ys up i d h))) in
      grind (arith, nat_tests, none, without_is ys k (rest key y ys up))

  with_is : (xs : List R) (x : R) → Rising key xs → Reordered (with_row key xs x) (x ∷ without key xs (key x))
  with_is [] x up = reordered_refl (x ∷ [])
  with_is (y ∷ ys) x up =
      elim (cases_order (key x) (key y)) [
        | inl e ↦ reordered_from_eq (with_same key x y ys e ∙ ap (λ (zs : List R). x ∷ zs) (sym (cond-true (eqb (key x) (key y)) ys (y ∷ without key ys (key x)) (eq-eqb (key x) (key y) e))))
        | inr (inl l) ↦ reordered_from_eq (with_less key x y ys l ∙ ap (λ (zs : List R). x ∷ zs) (sym (without_none key (y ∷ ys) (key x) (lookup_none key (y ∷ ys) (key x) (before key y ys (key x) up l)))))
        | inr (inr l) ↦
            let w : without key (y ∷ ys) (key x) ≡ y ∷ without key ys (key x) = cond-false (eqb (key x) (key y)) ys (y ∷ without key ys (key x)) (ne_eqb (key x) (key y) (λ e. omega arith)) in
            again (reordered_from_eq (with_more key x y ys l)) (
            again (keeping y (with_is ys x (rest key y ys up))) (
            again (swapping y x (without key ys (key x))) (reordered_from_eq (ap (λ (zs : List R). x ∷ zs) (sym w)))
            )
            )
      ]

  pub put_is : (xs : List R) (k : ℕ) (w : Option R) → Rising key xs → Under key k w → Reordered (put key xs k w) (option_to_list w ++ all_but key xs k)
  put_is xs k None up u = reordered_from_eq (without_is xs k up)
  put_is xs k (Some x) up u =
      let e : without key xs (key x) ≡ all_but key xs k = ap (without key xs) u ∙ without_is xs k up in
      subst (λ (zs : List R). Reordered (with_row key xs x) (x ∷ zs)) e (with_is xs x up)

  pub reordering : Reordering key
  reordering = record { without_is = without_is; put_is = put_is }
