-- Values in ten-thousandths, before they are rounded; losses in natural numbers.
use Rattle.std.specs.Prelude.{ℕ, ◌+◌, ◌-◌, ◌*◌, ◌≤◌, Bool, cond, List, [], ◌∷◌, ℤ, pos, ◌+ℤ◌, ◌-ℤ◌, ◌*ℤ◌, Some, None, Option, unsigned_abs}
use Rattle.std.specs.Int.{int_min}
use Rattle.margin.specs.declared.Order.{Order}
use Rattle.margin.specs.declared.Piece.{Piece}
use Rattle.margin.specs.declared.Side.{Side}
use Rattle.margin.specs.declared.Side.TheVariants.{Buy, Sell}
use Rattle.margin.specs.Numbers.{down, count}
use Rattle.margin.specs.Orders.{on, counted_price}
use Rattle.valuation.specs.declared.stake.Stake.{Stake}

abbrev pub unit_loss : Side → ℕ → ℕ → ℕ
unit_loss Buy worth money = money - worth
unit_loss Sell worth money = worth - money

abbrev pub loss : ℕ → ℕ → Order → ℕ
loss price weight o = o.left * unit_loss o.side (price * weight) (10000 * counted_price price o)

abbrev pub lost : List Order → ℕ → ℕ → ℕ → ℕ
lost os code price weight = count (λ o. cond (on code o) (loss price weight o) 0) os

abbrev pub raw : ℕ → ℤ → ℕ → Piece → ℤ
raw price amount lost p = pos p.weight *ℤ amount +ℤ pos (price * p.allowance) -ℤ pos lost

abbrev pub raw_of : List Order → Stake → Piece → ℤ
raw_of os l p = raw l.price l.amount (lost os l.code l.price p.weight) p

-- the lower of two, where there are two
abbrev pub lower : Option ℤ → Option ℤ → Option ℤ
lower None o = o
lower (Some m) None = Some m
lower (Some m) (Some n) = Some (int_min m n)

abbrev pub lowest : {X : Type 0} → (X → ℤ) → List X → Option ℤ
lowest f [] = None
lowest f (p ∷ ps) = lower (Some (f p)) (lowest f ps)

-- the piece that counts nothing, which joins off the liquid list
abbrev pub nought : Piece
nought = record { weight = 0; allowance = 0 }

abbrev pub with_nought : Bool → List Piece → List Piece
with_nought b ps = cond b (nought ∷ ps) ps

abbrev pub floored : Option ℤ → ℤ
floored None = pos 0
floored (Some z) = down z 10000

-- no larger than m, if there is one
abbrev pub Small : ℕ → Option ℤ → Type 0
Small m None = Unit {0}
Small m (Some z) = unsigned_abs z ≤ m

-- how large a value in ten-thousandths gets
abbrev pub reach : ℤ → ℕ
reach amount = 20000 * unsigned_abs amount + 5000000000000000000000000000
