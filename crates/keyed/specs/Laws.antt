-- What holds of every list of records whose keys rise, and of its changes.
use Rattle.std.specs.Prelude.{◌≡◌, ℕ, ◌+◌, not, List, [], ◌∷◌, ◌++◌, length, ℤ, pos, ◌+ℤ◌, IfSome, Some, None, sum_by, filter, Option, ◌==◌, ◌≢◌}
use Rattle.std.specs.Option.{option_to_list}
use Rattle.keyed.specs.Reordered.{Reordered}
use Rattle.keyed.specs.Rows.{Rising, lookup, with_row, without, put, Counted}

-- the sum of f over the records
abbrev pub total : {R : Type 0} → (R → ℤ) → List R → ℤ
total f [] = pos 0
total f (x ∷ xs) = f x +ℤ total f xs

module _ {R : Type 0} (key : R → ℕ) where
  -- w is no record, or one with the key k
  abbrev pub Under : ℕ → Option R → Type 0
  Under k w = IfSome w (λ x. key x ≡ k)

  -- the keys of ys rise, w is found in it at k, and at each other key what is found in xs
  pub record Changes (xs ys : List R) (k : ℕ) (w : Option R) : Type 0 where
    pub rise : Rising key ys
    pub here : lookup key ys k ≡ w
    pub others : (q : ℕ) → (q ≢ k) → lookup key ys q ≡ lookup key xs q

  -- look-ups after a record is added, replaced or removed
  abbrev pub LookedUp : Type 0
  LookedUp = (xs : List R) (k : ℕ) (w : Option R) → Rising key xs → Under k w → Changes xs (put key xs k w) k w

  -- the look-ups say which records these are
  abbrev pub Decided : Type 0
  Decided = (xs ys : List R) → Rising key xs → Rising key ys → ((q : ℕ) → lookup key xs q ≡ lookup key ys q) → xs ≡ ys

  -- the keys of the records
  abbrev pub KeysCounted : Type 0
  KeysCounted = (xs : List R) → Rising key xs → Counted key xs

  -- a change is taken back by putting there what stood there
  pub record TakenBack : Type 0 where
    pub any : (xs : List R) (k : ℕ) (w : Option R) → Rising key xs → Under k w → put key (put key xs k w) k (lookup key xs k) ≡ xs
    pub added : (xs : List R) (x : R) → Rising key xs → lookup key xs (key x) ≡ None → without key (with_row key xs x) (key x) ≡ xs
    pub replaced : (xs : List R) (x y : R) → Rising key xs → lookup key xs (key x) ≡ Some y → with_row key (with_row key xs x) y ≡ xs
    pub removed : (xs : List R) (q : ℕ) (y : R) → Rising key xs → lookup key xs q ≡ Some y → with_row key (without key xs q) y ≡ xs

  -- the one place of the key k: what stands before it and after it stays, whatever is put there
  pub record Place (xs : List R) (k : ℕ) : Type 0 where
    pub front : List R
    pub back : List R
    pub is : xs ≡ front ++ (option_to_list (lookup key xs k) ++ back)
    pub puts : (w : Option R) → Under k w → put key xs k w ≡ front ++ (option_to_list w ++ back)

  abbrev pub Placed : Type 0
  Placed = (xs : List R) (k : ℕ) → Rising key xs → Place xs k

  -- the records with other keys than k
  abbrev pub all_but : List R → ℕ → List R
  all_but xs k = filter (λ x. not (k == key x)) xs

  -- a change puts the new record to those with other keys, in some order
  pub record Reordering : Type 0 where
    pub without_is : (xs : List R) (k : ℕ) → Rising key xs → without key xs k ≡ all_but xs k
    pub put_is : (xs : List R) (k : ℕ) (w : Option R) → Rising key xs → Under k w → Reordered (put key xs k w) (option_to_list w ++ all_but xs k)

  -- how many records there are after a change
  pub record Sized : Type 0 where
    pub length_with : (xs : List R) (x : R) → Rising key xs → length (with_row key xs x) + length (option_to_list (lookup key xs (key x))) ≡ length xs + 1
    pub length_without : (xs : List R) (q : ℕ) → Rising key xs → length (without key xs q) + length (option_to_list (lookup key xs q)) ≡ length xs

  -- sums after a change: what was found at the key goes, and the new record comes
  pub record Summed (f : R → ℕ) (g : R → ℤ) : Type 0 where
    pub sum_with : (xs : List R) (x : R) → Rising key xs → sum_by f (with_row key xs x) + sum_by f (option_to_list (lookup key xs (key x))) ≡ sum_by f xs + f x
    pub sum_without : (xs : List R) (q : ℕ) → Rising key xs → sum_by f (without key xs q) + sum_by f (option_to_list (lookup key xs q)) ≡ sum_by f xs
    pub total_with : (xs : List R) (x : R) → Rising key xs → total g (with_row key xs x) +ℤ total g (option_to_list (lookup key xs (key x))) ≡ total g xs +ℤ g x
    pub total_without : (xs : List R) (q : ℕ) → Rising key xs → total g (without key xs q) +ℤ total g (option_to_list (lookup key xs q)) ≡ total g xs

  abbrev pub Sums : Type 0
  Sums = (f : R → ℕ) (g : R → ℤ) → Summed f g
