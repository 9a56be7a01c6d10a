-- The pieces that a source gives of a code.
use Rattle.std.specs.Prelude.{ℕ, zero, suc, ◌≤◌, List, length, None, Option}
use Rattle.std.specs.List.{slice_get}
use Rattle.margin.specs.declared.Piece.{Piece}
use Rattle.margin.specs.Sheets.{KeepsTheRules}

-- what stands at a place counted from 1, and nothing at 0
abbrev pub from_one : {X : Type 0} → List X → ℕ → Option X
from_one xs zero = None
from_one xs (suc k) = slice_get xs k

-- what a source owes of a code that it knows
pub record Lawful (most : ℕ) (ps : List Piece) : Type 0 where
  pub rules : KeepsTheRules ps
  pub at_most : length ps ≤ most
