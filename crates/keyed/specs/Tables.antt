-- What a table holds.
use Rattle.std.specs.Prelude.{◌≡◌, ℕ, ◌<◌, Bool, true, not, ◌&&◌, List, length, is_some, Some, None, Ok, Err, Option, Result, ◌≢◌, nat_le}
use Rattle.keyed.specs.declared.table.Table.{Table}
use Rattle.keyed.specs.declared.table.Refusal.{Refusal}
use Rattle.keyed.specs.declared.table.Refusal.TheVariants.{Taken, Full}
use Rattle.keyed.specs.Places.{records, serving}
use Rattle.keyed.specs.Rows.{Rising, lookup, Stands, Gap, put}

-- its records, from the first place on
abbrev pub entries : {R K : Type 0} {keyed : _} {ranks : _} → Table R K keyed ranks → List R
entries t = records t.rows

-- how many of its places serve
abbrev pub room : {R K : Type 0} {keyed : _} {ranks : _} → Table R K keyed ranks → ℕ
room t = serving t.rows

module _ {R : Type 0} (key : R → ℕ) {K : Type 0} {keyed : _} {ranks : _} where
  -- the keys rise
  abbrev pub Sound : Table R K keyed ranks → Type 0
  Sound t = Rising key (entries t)

  -- the record with the key q
  abbrev pub holds : Table R K keyed ranks → ℕ → Option R
  holds t q = lookup key (entries t) q

  -- t is sound, and as s was, but that it holds w at the key k
  pub record Sets (s t : Table R K keyed ranks) (k : ℕ) (w : Option R) : Type 0 where
    pub sound : Sound t
    pub rows : entries t ≡ put key (entries s) k w
    pub here : holds t k ≡ w
    pub others : (q : ℕ) → (q ≢ k) → holds t q ≡ holds s q
    pub room : room t ≡ room s

  -- where a search for q in t leads: to its record; or to where it would stand, and nothing is there to take out
  abbrev pub Located : Table R K keyed ranks → ℕ → Result ℕ ℕ → Type 0
  Located t q (Ok i) = Stands key (entries t) q i × (is_some (holds t q) ≡ true)
  Located t q (Err i) = Gap key (entries t) q i × Sets t t q None

  -- what `insert` answers: a record with the key is there; or each place is used; or the record is in
  abbrev pub Inserts : Table R K keyed ranks → Table R K keyed ranks → R → Result (Unit {0}) Refusal → Type 0
  Inserts s t x (Ok u) = (holds s (key x) ≡ None) × (length (entries s) < room s) × Sets s t (key x) (Some x)
  Inserts s t x (Err Taken) = (is_some (holds s (key x)) ≡ true) × (t ≡ s)
  Inserts s t x (Err Full) = (holds s (key x) ≡ None) × (length (entries s) ≡ room s) × (t ≡ s)

  -- what `replace` answers: the record that had the key, in whose place the new one stands; or that none had it
  abbrev pub Replaces : Table R K keyed ranks → Table R K keyed ranks → R → Option R → Type 0
  Replaces s t x None = (holds s (key x) ≡ None) × (t ≡ s)
  Replaces s t x (Some y) = (holds s (key x) ≡ Some y) × Sets s t (key x) (Some x)

  -- w is a record with a new key, and every place is used
  abbrev pub no_place : Table R K keyed ranks → ℕ → Option R → Bool
  no_place t k w = is_some w && not (is_some (holds t k)) && nat_le (room t) (length (entries t))

  -- no record, and n places that serve
  pub record Fresh (t : Table R K keyed ranks) (n : ℕ) : Type 0 where
    pub sound : Sound t
    pub none : (q : ℕ) → holds t q ≡ None
    pub empty : length (entries t) ≡ 0
    pub room : room t ≡ n
