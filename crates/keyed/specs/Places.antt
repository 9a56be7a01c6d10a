-- What places hold, in whatever order.
use Rattle.std.specs.Prelude.{◌≡◌, ℕ, ◌<◌, List, [], ◌∷◌, ◌++◌, length, take, Ok, Err, vec_items, Result}
use Rattle.keyed.specs.declared.places.Places.{Places}
use Rattle.keyed.specs.declared.table.Refusal.{Refusal}
use Rattle.keyed.specs.declared.table.Refusal.TheVariants.{Taken, Full}

-- the records, from the first place on
abbrev pub records : {R : Type 0} → Places R → List R
records p = take p.used (vec_items p.places)

-- how many of the places serve
abbrev pub serving : {R : Type 0} → Places R → ℕ
serving p = p.limit

-- no record, and n places that serve
pub record Vacant {R : Type 0} (p : Places R) (n : ℕ) : Type 0 where
  pub none : records p ≡ []
  pub serving : serving p ≡ n

-- what `append` answers: the record is in, after all others; or each place is used
abbrev pub Appends : {R : Type 0} → Places R → Places R → R → Result (Unit {0}) Refusal → Type 0
Appends p p' x (Ok u) = (length (records p) < serving p) × (records p' ≡ records p ++ x ∷ []) × (serving p' ≡ serving p)
Appends p p' x (Err Taken) = ⊥
Appends p p' x (Err Full) = (length (records p) ≡ serving p) × (p' ≡ p)
