-- What a source answers to a rate, and what it gives afterwards.
use Rattle.std.specs.Prelude.{◌≡◌, ℕ, ◌+◌, Bool, true, false, cond, List, [], ◌∷◌, length, Ok, Err, Result, ◌==◌, nat_le, nat_lt}
use Rattle.book.specs.declared.faults.FieldCause.TheVariants.{Range}
use Rattle.book.specs.declared.faults.FieldFault.{FieldFault}
use Rattle.book.specs.Checks.{check, first_of}
use Rattle.book.specs.Faults.{fault}
use Rattle.margin.specs.declared.Piece.{Piece}
use Rattle.sheet.specs.declared.faults.SheetCause.TheVariants.{Entered, Full}
use Rattle.sheet.specs.declared.faults.SheetFault.{SheetFault}
use Rattle.sheet.specs.Faults.{out_of_range, refusal}

-- how many codes a source takes
abbrev pub most_codes : ℕ
most_codes = 263

-- what the numbers of a rate say: whether one is outside its range, the code, and the code's pieces
pub record Said : Type 0 where
  pub outside : Bool
  pub code : ℕ
  pub pieces : List Piece

-- the answer: a number outside its range, a code that has pieces already, as many codes as there are places
abbrev pub enters : Bool → List Piece → ℕ → Result (Unit {0}) SheetFault
enters outside known count =
    first_of (
    check outside out_of_range
    ∷ check (nat_lt 0 (length known)) (refusal Entered)
    ∷ check (nat_le most_codes count) (refusal Full)
    ∷ []) tt

-- the row of a rate with its code and its pieces, or that a number is outside its range
abbrev pub Checked : {R : Type 0} → (R → ℕ) → (R → List Piece) → Said → Result R FieldFault → Type 0
Checked key pieces r (Ok x) = (r.outside ≡ false) × (key x ≡ r.code) × (pieces x ≡ r.pieces)
Checked key pieces r (Err f) = (r.outside ≡ true) × (f ≡ fault Range 0)

-- no code has pieces
pub record Empty (pieces : ℕ → List Piece) (count : ℕ) : Type 0 where
  pub none : (q : ℕ) → pieces q ≡ []
  pub no_codes : count ≡ 0

-- the code has these pieces, and every other what it had
pub record Enters (before : ℕ → List Piece) (count : ℕ) (code : ℕ) (ps : List Piece) (after : ℕ → List Piece) (count' : ℕ) : Type 0 where
  pub pieces : (q : ℕ) → after q ≡ cond (q == code) ps (before q)
  pub one_more : count' ≡ count + 1
