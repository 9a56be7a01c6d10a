-- The records of a table, as a list in which the keys rise.
use Rattle.std.specs.Prelude.{◌≡◌, ℕ, suc, ◌<◌, ◌≤◌, true, cond, ◌&&◌, List, [], ◌∷◌, map, length, is_some, Some, None, Ok, Err, filter, Option, Result, ◌==◌, nat_le, nat_lt, slice_index_or}
use Rattle.std.specs.List.{ContainsAt as Has}

module _ {R : Type 0} (key : R → ℕ) where
  -- each record's key is below the next one's
  abbrev pub Rising : List R → Type 0
  Rising xs = (k : ℕ) (d : R) → suc k < length xs → key (slice_index_or xs k d) < key (slice_index_or xs (suc k) d)

  -- the record with the key q
  abbrev pub lookup : List R → ℕ → Option R
  lookup [] q = None
  lookup (x ∷ xs) q = cond (q == key x) (Some x) (lookup xs q)

  -- the key q stands at i
  pub record Stands (xs : List R) (q i : ℕ) : Type 0 where
    pub within : i < length xs
    pub here : (d : R) → key (slice_index_or xs i d) ≡ q

  -- the keys before i are below q; those from i on are above it
  abbrev pub Below : List R → ℕ → ℕ → Type 0
  Below xs q i = (k : ℕ) (d : R) → k < i → key (slice_index_or xs k d) < q

  abbrev pub Above : List R → ℕ → ℕ → Type 0
  Above xs q i = (k : ℕ) (d : R) → i ≤ k → k < length xs → q < key (slice_index_or xs k d)

  -- no record has the key q, and one that had it would stand at i
  pub record Gap (xs : List R) (q i : ℕ) : Type 0 where
    pub within : i ≤ length xs
    pub below : Below xs q i
    pub above : Above xs q i

  -- what a search for q answers
  abbrev pub Sought : List R → ℕ → Result ℕ ℕ → Type 0
  Sought xs q (Ok i) = Stands xs q i
  Sought xs q (Err i) = Gap xs q i

  -- the records with keys from low to high
  abbrev pub ranked_between : ℕ → ℕ → List R → List R
  ranked_between low high xs = filter (λ x. nat_le low (key x) && nat_le (key x) high) xs

  -- x among records whose keys rise: in the place of the one with its key, or else where its key belongs
  abbrev pub with_row : List R → R → List R
  with_row [] x = x ∷ []
  with_row (y ∷ ys) x = cond (nat_lt (key x) (key y)) (x ∷ y ∷ ys) (cond (key x == key y) (x ∷ ys) (y ∷ with_row ys x))

  -- the records but the one with the key q
  abbrev pub without : List R → ℕ → List R
  without [] q = []
  without (y ∷ ys) q = cond (q == key y) ys (y ∷ without ys q)

  -- the records with w at the key q
  abbrev pub put : List R → ℕ → Option R → List R
  put xs q None = without xs q
  put xs q (Some x) = with_row xs x

-- the keys of the records: as many as there are records, all different, and just those under which a record is found
pub record Counted {R : Type 0} (key : R → ℕ) (xs : List R) : Type 0 where
  pub many : length (map key xs) ≡ length xs
  pub rise : Rising (λ n. n) (map key xs)
  pub found : (q : ℕ) → Has (map key xs) q → is_some (lookup key xs q) ≡ true
  pub only : (q : ℕ) → is_some (lookup key xs q) ≡ true → Has (map key xs) q
