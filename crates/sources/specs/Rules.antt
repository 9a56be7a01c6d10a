-- The pieces of each source keep the rules.
use Rattle.std.specs.Prelude.{◌≡◌, ℕ, ◌<◌, List, length, Some, None, Option}
use Rattle.std.proofs.Common.{arith, rules}
use Rattle.keyed.specs.Tables.{holds}
use Rattle.margin.specs.declared.Piece.{Piece}
use Rattle.rates.specs.Pieces.{Lawful}
use Rattle.sources.specs.declared.posted.PostedRow.{PostedRow}
use Rattle.sources.specs.declared.stepped.SteppedRow.{SteppedRow}
use Rattle.sources.specs.declared.table.Rates.{Rates}
use Rattle.sources.specs.Keys.{posted_code, stepped_code}
use Rattle.sources.specs.Pieces.{given}
use Rattle.sources.specs.Rates.{rated}
use Rattle.sources.specs.Posted.{of_posted, posted}
use Rattle.sources.specs.Stepped.{of_stepped, stepped}
use Rattle.sources.specs.Products.{limit_by_step}

pub posted_many : (x : PostedRow) → length (of_posted x) ≡ 2
posted_many x = omega arith

pub posted_row_lawful : (x : PostedRow) → Lawful 2 (of_posted x)
posted_row_lawful x = search rules

pub stepped_many : (x : SteppedRow) → length (of_stepped x) ≡ 6
stepped_many x = omega arith

pub stepped_row_lawful : (x : SteppedRow) → Lawful 6 (of_stepped x)
stepped_row_lawful x = search (rules, limit_by_step)

module _ {R : Type 0} (key : R → ℕ) (pieces : R → List Piece) (most : ℕ) (each : (x : R) → Lawful most (pieces x)) where
  given_lawful : (o : Option R) → 0 < length (given pieces o) → Lawful most (given pieces o)
  given_lawful None known = absurd (omega arith)
  given_lawful (Some x) known = each x

  -- a table's pieces keep the rules, where each row's do
  pub rated_lawful : {N : Type 0} {row : _} {keyed : _} {ranks : _} (s : Rates R N row keyed ranks) (code : ℕ) → 0 < length (rated key pieces s code) → Lawful most (rated key pieces s code)
  rated_lawful s code known = given_lawful (holds key s.rows code) known

pub posted_lawful : {N : Type 0} {row : _} {keyed : _} {ranks : _} (s : Rates PostedRow N row keyed ranks) (code : ℕ) → 0 < length (posted s code) → Lawful 2 (posted s code)
posted_lawful = rated_lawful posted_code of_posted 2 posted_row_lawful

pub stepped_lawful : {N : Type 0} {row : _} {keyed : _} {ranks : _} (s : Rates SteppedRow N row keyed ranks) (code : ℕ) → 0 < length (stepped s code) → Lawful 6 (stepped s code)
stepped_lawful = rated_lawful stepped_code of_stepped 6 stepped_row_lawful
