-- What a table of rates gives, and what it answers to a rate.
use Rattle.std.specs.Prelude.{ℕ, List, length, Result}
use Rattle.keyed.specs.Tables.{entries, holds}
use Rattle.margin.specs.declared.Piece.{Piece}
use Rattle.sheet.specs.declared.faults.SheetFault.{SheetFault}
use Rattle.sources.specs.declared.table.Rates.{Rates}
use Rattle.sources.specs.Pieces.{given}
use Rattle.sources.specs.Entering.{Said, enters, Empty, Enters}

-- how many codes the table has
abbrev pub count : {R N : Type 0} {row : _} {keyed : _} {ranks : _} → Rates R N row keyed ranks → ℕ
count s = length (entries s.rows)

module _ {R : Type 0} (key : R → ℕ) (pieces : R → List Piece) {N : Type 0} {row : _} {keyed : _} {ranks : _} where
  -- the pieces of a code
  abbrev pub rated : Rates R N row keyed ranks → ℕ → List Piece
  rated s code = given pieces (holds key s.rows code)

  -- no code has pieces
  abbrev pub Cleared : Rates R N row keyed ranks → Type 0
  Cleared s = Empty (rated s) (count s)

  -- the answer to a rate
  abbrev pub enters_rate : Rates R N row keyed ranks → Said → Result (Unit {0}) SheetFault
  enters_rate s r = enters r.outside (rated s r.code) (count s)

  -- s' gives what s gave, and the rate's pieces
  abbrev pub EntersRate : Rates R N row keyed ranks → Said → Rates R N row keyed ranks → Type 0
  EntersRate s r s' = Enters (rated s) (count s) r.code r.pieces (rated s') (count s')
