-- What writing the cash of a portfolio does.
use Rattle.std.specs.Prelude.{◌≡◌, ℕ, ◌≤◌, Bool, true, cond, List, ℤ, pos, Some, None, Option, ◌==◌, nat_lt, slice_index_or, slice_set, unsigned_abs}
use Rattle.std.specs.Option.{option_map}
use Rattle.register.specs.declared.records.Portfolio.{Portfolio}
use Rattle.register.specs.declared.state.Register.{Register}
use Rattle.register.specs.State.{currencies, portfolio, is_open, open_count, places, Pays}

-- each amount is within the limit
abbrev pub Small : List ℤ → Type 0
Small zs = (i : ℕ) → unsigned_abs (slice_index_or zs i (pos 0)) ≤ 200000000000

abbrev pub over : ℤ → Bool
over z = nat_lt 200000000000 (unsigned_abs z)

-- the cash with z at a place, unless that is over the limit
abbrev pub moved_to : List ℤ → ℕ → ℤ → Option (List ℤ)
moved_to zs i z = cond (over z) None (Some (slice_set zs i z))

abbrev pub cash_of : Portfolio → List ℤ
cash_of x = x.cash

-- portfolio p has the cash zs by place, and nothing else has changed
pub record Writes (r : Register) (p : ℕ) (zs : List ℤ) (t : Register) : Type 0 where
  pub currencies : currencies t ≡ currencies r
  pub cash : (j : ℕ) → option_map cash_of (portfolio t j) ≡ cond (j == p) (Some zs) (option_map cash_of (portfolio r j))
  pub count : open_count t ≡ open_count r
  pub places : places t ≡ places r

-- x is portfolio p with z more in currency c: writing it is the payment
pub record Paid (r : Register) (p c : ℕ) (z : ℤ) (x : Portfolio) : Type 0 where
  pub «open» : is_open r x.number ≡ true
  pub writes : (t : Register) → Writes r x.number x.cash t → Pays r p c z t
