-- A number in two halves, and an answer that may have none.
use Rattle.std.specs.Prelude.{◌≡◌, ℤ, pos, ◌+ℤ◌, ◌*ℤ◌, is_some, Option}
use Rattle.std.specs.Option.{unwrap_or}
use Rattle.measuring.specs.declared.numbers.Wide.{Wide}
use Rattle.measuring.specs.declared.numbers.Answer.{Answer}

-- high × 2^64 + low
abbrev pub number : Wide → ℤ
number w = pos 18446744073709551616 *ℤ w.high +ℤ pos w.low

-- whether there is a number, and the number, 0 where there is none
abbrev pub Answers : Option ℤ → Answer → Type 0
Answers o a = (a.known ≡ is_some o) × (number a.number ≡ unwrap_or o (pos 0))
