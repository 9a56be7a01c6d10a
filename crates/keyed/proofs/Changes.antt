-- The laws of changes, look-ups and sums: each change is one at the place of its key.
use Rattle.std.proofs.Common.{◌≡◌, ℕ, zero, suc, ◌+◌, ◌<◌, ◌≤◌, eqb, ◌⊎◌, List, [], ◌∷◌, ◌++◌, length, get_or, take, drop, set, ℤ, ◌+ℤ◌, Some, None, sum_by, Option, sym, refl, ap, ◌∙◌, subst, inl, inr, arith}
use lib.Seq.{split_at}
use Rattle.std.proofs.lemmas.Int.{ints}
use Rattle.std.specs.List.{insert, remove}
use Rattle.std.specs.Option.{option_to_list}
use Rattle.std.proofs.lemmas.List.{set_split, take-append-drop, length-append}
use Rattle.std.proofs.lemmas.List.Sums.{sum_by-cons, sum_by-append}
use Rattle.std.proofs.lemmas.Bool.{cases_order, cases_Bool, eqb-true, eqb-false}
use Rattle.keyed.specs.Rows.{Rising, lookup, Stands, Gap, Below, with_row, without, put}
use Rattle.keyed.specs.Laws.{total, Under, Changes, LookedUp, TakenBack, Place, Placed, Sized, Sums}
use Rattle.keyed.proofs.Lookups.{written, written_here, written_apart, rest, first, lookup_key, lookup_stands, lookup_gap, lookup_inserted, lookup_remove, lookup_replace, rising_inserted, rising_removed, rising_replaced, same_lookups}
use Rattle.keyed.proofs.Puts.{inserted_is, removed_is, replaced_is, without_none}

module _ {R : Type 0} (key : R → ℕ) where
  -- ---- each key stands somewhere, or has a place where it would
  below_more : (y : R) (ys : List R) (q i : ℕ) → key y < q → Below key ys q i → Below key (y ∷ ys) q (suc i)
  below_more y ys q i l below zero d h = l
  below_more y ys q i l below (suc k) d h = below k d (omega arith)

  above_first : (y : R) (ys : List R) (q : ℕ) → Rising key (y ∷ ys) → q < key y → (k : ℕ) (d : R) → k < length (y ∷ ys) → q < key (get_or (y ∷ ys) k d)
  above_first y ys q up l zero d h = l
  above_first y ys q up l (suc k) d h = omega (arith, first key y ys up k d (omega arith))

  gap_more : (y : R) (ys : List R) (q i : ℕ) → key y < q → Gap key ys q i → Gap key (y ∷ ys) q (suc i)
  gap_more y ys q i l g =
      record { within = omega (arith, g.within); below = below_more y ys q i l g.below; above = above_more }
    where
      above_more : (k : ℕ) (d : R) → suc i ≤ k → k < length (y ∷ ys) → q < key (get_or (y ∷ ys) k d)
      above_more zero d h m = absurd (omega arith)
      above_more (suc k) d h m = g.above k d (omega arith) (omega arith)

  pub place : (xs : List R) (q : ℕ) → Rising key xs → ((i : ℕ) × Stands key xs q i) ⊎ ((i : ℕ) × Gap key xs q i)
  place [] q up = inr (0, record { within = omega arith; below = λ k d l. absurd (omega arith); above = λ k d l m. absurd (omega arith) })
  place (y ∷ ys) q up =
      elim (cases_order q (key y)) [
        | inl e ↦ inl (0, record { within = omega arith; here = λ d. sym e })
        | inr (inl l) ↦ inr (0, record { within = omega arith; below = λ k d m. absurd (omega arith); above = λ k d m h. above_first y ys q up l k d h })
        | inr (inr l) ↦
            elim (place ys q (rest key y ys up)) [
              | inl p ↦ inl (suc p.0, record { within = omega (arith, p.1.within); here = p.1.here })
              | inr p ↦ inr (suc p.0, gap_more y ys q p.0 l p.1)
            ]
      ]

  -- ---- look-ups after a change
  from_list : (xs ys zs : List R) (k : ℕ) (w : Option R) → ys ≡ zs → Rising key ys → ((q : ℕ) → lookup key ys q ≡ written (lookup key xs) k w q) → Changes key xs zs k w
  from_list xs ys zs k w e up looks =
      let c : Changes key xs ys k w = record { rise = up; here = looks k ∙ written_here (lookup key xs) k w; others = λ q ne. looks q ∙ written_apart (lookup key xs) k w q ne } in
      subst (λ (l : List R). Changes key xs l k w) e c

  with_changes : (xs : List R) (x : R) → Rising key xs → Changes key xs (with_row key xs x) (key x) (Some x)
  with_changes xs x up =
      elim (place xs (key x) up) [
        | inl p ↦
            from_list xs (set xs p.0 x) (with_row key xs x) (key x) (Some x) (replaced_is key xs p.0 x up p.1) (rising_replaced key xs p.0 x up p.1.within (p.1.here x))
            (λ q. lookup_replace key xs p.0 x q up p.1.within (p.1.here x))
        | inr p ↦
            from_list xs (insert xs p.0 x) (with_row key xs x) (key x) (Some x) (inserted_is key xs p.0 x p.1) (rising_inserted key xs p.0 x up p.1)
            (λ q. lookup_inserted key xs p.0 x q p.1)
      ]

  same_none : (xs : List R) (k : ℕ) → Rising key xs → lookup key xs k ≡ None → Changes key xs (without key xs k) k None
  same_none xs k up n =
      let c : Changes key xs xs k None = record { rise = up; here = n; others = λ q ne. refl } in
      subst (λ (l : List R). Changes key xs l k None) (sym (without_none key xs k n)) c

  without_changes : (xs : List R) (k : ℕ) → Rising key xs → Changes key xs (without key xs k) k None
  without_changes [] k up = record { rise = up; here = refl; others = λ q ne. refl }
  without_changes (y ∷ ys) k up =
      elim (place (y ∷ ys) k up) [
        | inl p ↦
            from_list (y ∷ ys) (remove (y ∷ ys) p.0) (without key (y ∷ ys) k) k None (removed_is key (y ∷ ys) k p.0 up p.1) (rising_removed key (y ∷ ys) p.0 up p.1.within)
            (λ q. lookup_remove key (y ∷ ys) p.0 y q up p.1.within ∙ ap (λ (m : ℕ). written (lookup key (y ∷ ys)) m None q) (p.1.here y))
        | inr p ↦ same_none (y ∷ ys) k up (lookup_gap key (y ∷ ys) k p.0 p.1)
      ]

  pub changes : LookedUp key
  changes xs k None up u = without_changes xs k up
  changes xs k (Some x) up u = subst (λ (q : ℕ). Changes key xs (with_row key xs x) q (Some x)) u (with_changes xs x up)

  -- ---- a change is taken back
  found_under : (xs : List R) (k : ℕ) (w : Option R) → lookup key xs k ≡ w → Under key k w
  found_under xs k None e = tt
  found_under xs k (Some x) e = lookup_key key xs k x e

  back : (xs : List R) (k : ℕ) (w v : Option R) → Rising key xs → Under key k w → lookup key xs k ≡ v → put key (put key xs k w) k v ≡ xs
  back xs k w v up u e =
      let c : Changes key xs (put key xs k w) k w = changes xs k w up u in
      let d : Changes key (put key xs k w) (put key (put key xs k w) k v) k v = changes (put key xs k w) k v c.rise (found_under xs k v e) in
      same_lookups key (put key (put key xs k w) k v) xs d.rise up
      (λ q. elim (cases_Bool (eqb q k)) [
        | inl s ↦ ap (lookup key (put key (put key xs k w) k v)) (eqb-true q k s) ∙ d.here ∙ sym e ∙ ap (lookup key xs) (sym (eqb-true q k s))
        | inr s ↦ d.others q (eqb-false q k s) ∙ c.others q (eqb-false q k s)
      ])

  pub taken_back : TakenBack key
  taken_back =
      record {
        any = λ xs k w up u. back xs k w (lookup key xs k) up u refl;
        added = λ xs x up e. back xs (key x) (Some x) None up refl e;
        replaced = λ xs x y up e. back xs (key x) (Some x) (Some y) up refl e;
        removed = λ xs q y up e. back xs q None (Some y) up tt e;
      }

  -- ---- the one place of a key
  stands_place : (xs : List R) (k i : ℕ) → Rising key xs → Stands key xs k i → Place key xs k
  stands_place [] k i up s = absurd (omega (arith, s.within))
  stands_place (y ∷ ys) k i up s =
      record {
        front = take i (y ∷ ys);
        back = drop (suc i) (y ∷ ys);
        is = split_at (y ∷ ys) i y s.within ∙ ap (λ (o : Option R). take i (y ∷ ys) ++ (option_to_list o ++ drop (suc i) (y ∷ ys))) (sym (lookup_stands key (y ∷ ys) k i y up s));
        puts = puts;
      }
    where
      puts : (w : Option R) → Under key k w → put key (y ∷ ys) k w ≡ take i (y ∷ ys) ++ (option_to_list w ++ drop (suc i) (y ∷ ys))
      puts None u = sym (removed_is key (y ∷ ys) k i up s)
      puts (Some x) u = sym (replaced_is key (y ∷ ys) i x up (subst (λ (q : ℕ). Stands key (y ∷ ys) q i) (sym u) s)) ∙ set_split (y ∷ ys) i x s.within

  gap_place : (xs : List R) (k i : ℕ) → Gap key xs k i → Place key xs k
  gap_place xs k i g =
      record {
        front = take i xs;
        back = drop i xs;
        is = sym (take-append-drop i xs) ∙ ap (λ (o : Option R). take i xs ++ (option_to_list o ++ drop i xs)) (sym (lookup_gap key xs k i g));
        puts = puts;
      }
    where
      puts : (w : Option R) → Under key k w → put key xs k w ≡ take i xs ++ (option_to_list w ++ drop i xs)
      puts None u = without_none key xs k (lookup_gap key xs k i g) ∙ sym (take-append-drop i xs)
      puts (Some x) u = sym (inserted_is key xs i x (subst (λ (q : ℕ). Gap key xs q i) (sym u) g))

  pub placed : Placed key
  placed xs k up = elim (place xs k up) [ inl p ↦ stands_place xs k p.0 up p.1 | inr p ↦ gap_place xs k p.0 p.1 ]

  -- ---- lengths and sums
  length_put : (xs : List R) (k : ℕ) (w : Option R) → Rising key xs → Under key k w → length (put key xs k w) + length (option_to_list (lookup key xs k)) ≡ length xs + length (option_to_list w)
  length_put xs k w up u =
      let p : Place key xs k = placed xs k up in
      omega (arith, simp length-append at (ap length p.is), simp length-append at (ap length (p.puts w u)))

  pub sized : Sized key
  sized = record { length_with = λ xs x up. omega (arith, length_put xs (key x) (Some x) up refl); length_without = λ xs q up. omega (arith, length_put xs q None up tt) }

  total_append : (g : R → ℤ) (xs ys : List R) → total g (xs ++ ys) ≡ total g xs +ℤ total g ys
  total_append g [] ys = omega (arith, ints)
  total_append g (x ∷ xs) ys = omega (arith, ints, total_append g xs ys)

  sum_three : (f : R → ℕ) (a b c : List R) → sum_by f (a ++ (b ++ c)) ≡ sum_by f a + (sum_by f b + sum_by f c)
  sum_three f a b c = omega (arith, sum_by-append f a (b ++ c), sum_by-append f b c)

  total_three : (g : R → ℤ) (a b c : List R) → total g (a ++ (b ++ c)) ≡ total g a +ℤ (total g b +ℤ total g c)
  total_three g a b c = omega (arith, ints, total_append g a (b ++ c), total_append g b c)

  sum_put : (f : R → ℕ) (xs : List R) (k : ℕ) (w : Option R) → Rising key xs → Under key k w → sum_by f (put key xs k w) + sum_by f (option_to_list (lookup key xs k)) ≡ sum_by f xs + sum_by f (option_to_list w)
  sum_put f xs k w up u =
      let p : Place key xs k = placed xs k up in
      let a : sum_by f xs ≡ sum_by f p.front + (sum_by f (option_to_list (lookup key xs k)) + sum_by f p.back) = ap (sum_by f) p.is ∙ sum_three f p.front (option_to_list (lookup key xs k)) p.back in
      let b : sum_by f (put key xs k w) ≡ sum_by f p.front + (sum_by f (option_to_list w) + sum_by f p.back) = ap (sum_by f) (p.puts w u) ∙ sum_three f p.front (option_to_list w) p.back in
      omega arith

  total_put : (g : R → ℤ) (xs : List R) (k : ℕ) (w : Option R) → Rising key xs → Under key k w → total g (put key xs k w) +ℤ total g (option_to_list (lookup key xs k)) ≡ total g xs +ℤ total g (option_to_list w)
  total_put g xs k w up u =
      let p : Place key xs k = placed xs k up in
      let a : total g xs ≡ total g p.front +ℤ (total g (option_to_list (lookup key xs k)) +ℤ total g p.back) = ap (total g) p.is ∙ total_three g p.front (option_to_list (lookup key xs k)) p.back in
      let b : total g (put key xs k w) ≡ total g p.front +ℤ (total g (option_to_list w) +ℤ total g p.back) = ap (total g) (p.puts w u) ∙ total_three g p.front (option_to_list w) p.back in
      omega (arith, ints)

  pub sums : Sums key
  sums f g =
      record {
        sum_with = λ xs x up. omega (arith, sum_put f xs (key x) (Some x) up refl, sum_by-cons f x []);
        sum_without = λ xs q up. omega (arith, sum_put f xs q None up tt);
        total_with = λ xs x up. omega (arith, ints, total_put g xs (key x) (Some x) up refl);
        total_without = λ xs q up. omega (arith, ints, total_put g xs q None up tt);
      }
