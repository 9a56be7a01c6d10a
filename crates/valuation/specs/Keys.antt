-- What lines are found by.
use Rattle.std.specs.Prelude.{ℕ}
use Rattle.valuation.specs.declared.line.Line.{Line}

abbrev pub line_code : Line → ℕ
line_code l = l.code
