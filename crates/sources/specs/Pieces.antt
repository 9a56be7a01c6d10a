-- The two pieces of a rate, below and above a weight of 10,000, and what a row gives.
use Rattle.std.specs.Prelude.{ℕ, ◌+◌, ◌-◌, List, [], Some, None, Option}
use Rattle.margin.specs.declared.Piece.{Piece}

abbrev pub lighter : ℕ → ℕ → Piece
lighter rate a = record { weight = 10000 - rate; allowance = a }

abbrev pub heavier : ℕ → ℕ → Piece
heavier rate a = record { weight = 10000 + rate; allowance = a }

-- the pieces of a row, none where there is no row
abbrev pub given : {R : Type 0} → (R → List Piece) → Option R → List Piece
given pieces None = []
given pieces (Some x) = pieces x
