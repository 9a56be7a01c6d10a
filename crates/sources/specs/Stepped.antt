-- The pieces of stepped rates, and what a table of them gives and answers.
use Rattle.std.specs.Prelude.{ℕ, ◌+◌, ◌-◌, ◌*◌, ◌||◌, List, [], ◌∷◌, Result}
use Rattle.book.specs.declared.risk_rates.SteppedRate.{SteppedRate}
use Rattle.book.specs.Ranges.{no_rated_code, no_steps, no_limits}
use Rattle.margin.specs.declared.Piece.{Piece}
use Rattle.sheet.specs.declared.faults.SheetFault.{SheetFault}
use Rattle.sources.specs.declared.stepped.SteppedRow.{SteppedRow}
use Rattle.sources.specs.declared.table.Rates.{Rates}
use Rattle.sources.specs.Keys.{stepped_code}
use Rattle.sources.specs.Entering.{Said}
use Rattle.sources.specs.Pieces.{lighter, heavier}
use Rattle.sources.specs.Rates.{rated, count, enters_rate}

-- what the second and the third step allow; the first allows nothing
abbrev pub second : ℕ → ℕ → ℕ → ℕ
second s1 s2 k1 = k1 * (s2 - s1)

abbrev pub third : ℕ → ℕ → ℕ → ℕ → ℕ → ℕ
third s1 s2 s3 k1 k2 = second s1 s2 k1 + k2 * (s3 - s2)

abbrev pub stepped_pieces : ℕ → ℕ → ℕ → ℕ → ℕ → List Piece
stepped_pieces s1 s2 s3 k1 k2 =
    let a2 : ℕ = second s1 s2 k1 in
    let a3 : ℕ = third s1 s2 s3 k1 k2 in
    lighter s1 0 ∷ lighter s2 a2 ∷ lighter s3 a3 ∷ heavier s1 0 ∷ heavier s2 a2 ∷ heavier s3 a3 ∷ []

abbrev pub of_stepped : SteppedRow → List Piece
of_stepped r = stepped_pieces r.rate.s1 r.rate.s2 r.rate.s3 r.rate.k1 r.rate.k2

-- what the numbers of a rate say
abbrev pub stepped_says : SteppedRate → Said
stepped_says r =
    record {
      outside = no_rated_code r.code || no_steps r.s1 r.s2 r.s3 || no_limits r.k1 r.k2;
      code = r.code;
      pieces = stepped_pieces r.s1 r.s2 r.s3 r.k1 r.k2;
    }

module _ {N : Type 0} {row : _} {keyed : _} {ranks : _} where
  -- the pieces of a code
  abbrev pub stepped : Rates SteppedRow N row keyed ranks → ℕ → List Piece
  stepped = rated stepped_code of_stepped

  -- how many codes the table has
  abbrev pub stepped_count : Rates SteppedRow N row keyed ranks → ℕ
  stepped_count = count

  abbrev pub enters_stepped : Rates SteppedRow N row keyed ranks → ℕ → ℕ → ℕ → ℕ → ℕ → ℕ → Result (Unit {0}) SheetFault
  enters_stepped s code s1 s2 s3 k1 k2 = enters_rate stepped_code of_stepped s (stepped_says (record { code = code; s1 = s1; s2 = s2; s3 = s3; k1 = k1; k2 = k2 }))
