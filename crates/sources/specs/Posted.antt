-- The pieces of posted rates, and what a table of them gives and answers.
use Rattle.std.specs.Prelude.{ℕ, ◌||◌, List, [], ◌∷◌, Result}
use Rattle.book.specs.declared.risk_rates.PostedRate.{PostedRate}
use Rattle.book.specs.Ranges.{no_rated_code, no_risk_rate}
use Rattle.margin.specs.declared.Piece.{Piece}
use Rattle.sheet.specs.declared.faults.SheetFault.{SheetFault}
use Rattle.sources.specs.declared.posted.PostedRow.{PostedRow}
use Rattle.sources.specs.declared.table.Rates.{Rates}
use Rattle.sources.specs.Keys.{posted_code}
use Rattle.sources.specs.Entering.{Said}
use Rattle.sources.specs.Pieces.{lighter, heavier}
use Rattle.sources.specs.Rates.{rated, count, enters_rate}

abbrev pub posted_pieces : ℕ → ℕ → List Piece
posted_pieces plus minus = lighter plus 0 ∷ heavier minus 0 ∷ []

abbrev pub of_posted : PostedRow → List Piece
of_posted r = posted_pieces r.rate.plus r.rate.minus

-- what the numbers of a rate say
abbrev pub posted_says : PostedRate → Said
posted_says r = record { outside = no_rated_code r.code || no_risk_rate r.plus || no_risk_rate r.minus; code = r.code; pieces = posted_pieces r.plus r.minus }

module _ {N : Type 0} {row : _} {keyed : _} {ranks : _} where
  -- the pieces of a code
  abbrev pub posted : Rates PostedRow N row keyed ranks → ℕ → List Piece
  posted = rated posted_code of_posted

  -- how many codes the table has
  abbrev pub posted_count : Rates PostedRow N row keyed ranks → ℕ
  posted_count = count

  abbrev pub enters_posted : Rates PostedRow N row keyed ranks → ℕ → ℕ → ℕ → Result (Unit {0}) SheetFault
  enters_posted s code plus minus = enters_rate posted_code of_posted s (posted_says (record { code = code; plus = plus; minus = minus }))
