-- What is asked of a register, and what it answers.
use Rattle.std.specs.Prelude.{ℕ, Bool, true, false, ℤ}
use Rattle.margin.specs.declared.Figures.{Figures}
use Rattle.margin.specs.declared.Order.{Order}
use Rattle.margin.specs.Sheets.{Sheet}

-- the figures of a notice, at the moment the first ratio fell below nought
pub record Notice : Type 0 where
  pub value : ℤ
  pub initial : ℤ
  pub minimum : ℤ

-- a notice taken from the register, to be recorded or put back
pub record Paper : Type 0 where
  pub portfolio : ℕ
  pub notice : Notice

pub record Entry : Type 0 where
  pub serial : ℕ
  pub portfolio : ℕ
  pub notice : Notice
  pub time : ℕ

pub data Call : Type 0 where
  open_portfolio : ℕ → Call
  pay_in pay_out : (portfolio currency amount : ℕ) → Call
  deliver_in deliver_out : (portfolio code quantity : ℕ) → Call
  place : Order → Call
  fill : (order quantity price : ℕ) → Call
  cancel : (order : ℕ) → Call
  figures : (portfolio : ℕ) → Call
  take_notice : (portfolio : ℕ) → Call
  record_paper : Paper → (time : ℕ) → Call
  put_back : Paper → Call
  put_in_force : Sheet → Call

pub data Answer : Type 0 where
  accepted : Answer
  told : Figures → Answer
  given : Paper → Answer
  refused : ℕ → Answer

abbrev pub done : Answer → Bool
done accepted = true
done (told f) = true
done (given p) = true
done (refused n) = false
