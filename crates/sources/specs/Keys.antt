-- What the rows of the two tables are found by.
use Rattle.std.specs.Prelude.{ℕ}
use Rattle.sources.specs.declared.posted.PostedRow.{PostedRow}
use Rattle.sources.specs.declared.stepped.SteppedRow.{SteppedRow}

abbrev pub posted_code : PostedRow → ℕ
posted_code r = r.rate.code

abbrev pub stepped_code : SteppedRow → ℕ
stepped_code r = r.rate.code
