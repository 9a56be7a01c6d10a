-- The ranges of numbers: each test says that a number is outside its range.
use Rattle.std.specs.Prelude.{ℕ, Bool, true, false, ◌||◌, Ok, Err, Result, ◌==◌, nat_lt}
use Rattle.book.specs.declared.faults.FieldCause.TheVariants.{Range}
use Rattle.book.specs.declared.faults.FieldFault.{FieldFault}
use Rattle.book.specs.Faults.{fault}

abbrev pub outside : ℕ → ℕ → ℕ → Bool
outside low high n = nat_lt n low || nat_lt high n

abbrev pub no_portfolio : ℕ → Bool
no_portfolio p = outside 1 65535 p

abbrev pub no_currency : ℕ → Bool
no_currency c = outside 1 999 c

-- the code of an instrument
abbrev pub no_code : ℕ → Bool
no_code c = outside 1000 65535 c

-- the number of an order
abbrev pub no_number : ℕ → Bool
no_number n = outside 1 4294967295 n

-- a quantity, or a price
abbrev pub no_quantity : ℕ → Bool
no_quantity q = outside 1 1000000000 q

-- an exchange rate in ten-thousandths of a rouble
abbrev pub no_fx : ℕ → Bool
no_fx fx = outside 1 10000000 fx

abbrev pub no_amount : ℕ → Bool
no_amount x = outside 1 200000000000 x

-- no rate is entered for code 0 or for the rouble
abbrev pub no_rated_code : ℕ → Bool
no_rated_code c = c == 0 || c == 643

-- a risk rate in ten-thousandths
abbrev pub no_risk_rate : ℕ → Bool
no_risk_rate d = nat_lt 10000 d

-- three risk rates that do not fall
abbrev pub no_steps : ℕ → ℕ → ℕ → Bool
no_steps s1 s2 s3 = nat_lt s2 s1 || nat_lt s3 s2 || no_risk_rate s3

-- two limits that do not fall
abbrev pub no_limits : ℕ → ℕ → Bool
no_limits k1 k2 = nat_lt k2 k1

-- refusal 4 at a place, where a number is outside its range
abbrev pub ranged : Bool → ℕ → Result (Unit {0}) FieldFault
ranged true p = Err (fault Range p)
ranged false p = Ok tt
