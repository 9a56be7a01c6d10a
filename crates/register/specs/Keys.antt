-- What the records of the register are found by.
use Rattle.std.specs.Prelude.{ℕ}
use Rattle.register.specs.declared.records.Portfolio.{Portfolio}

abbrev pub portfolio_number : Portfolio → ℕ
portfolio_number x = x.number
