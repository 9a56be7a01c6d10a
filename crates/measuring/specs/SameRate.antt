-- What a source that gives every code the same rate means.
use Rattle.std.specs.Prelude.{ℕ, ◌<◌, List, length}
use Rattle.margin.specs.declared.Piece.{Piece}
use Rattle.rates.specs.Pieces.{Lawful}
use Rattle.measuring.specs.declared.same_rate.SameRate.{SameRate}

module _ {R : Type 0} (pieces : R → List Piece) where
  abbrev pub same_pieces : {N : Type 0} → SameRate R N → ℕ → List Piece
  same_pieces s code = pieces s.row

  pub same_lawful : (most : ℕ) → ((x : R) → Lawful most (pieces x)) → {N : Type 0} (s : SameRate R N) (code : ℕ) → 0 < length (pieces s.row) → Lawful most (pieces s.row)
  same_lawful most each s code known = each s.row
