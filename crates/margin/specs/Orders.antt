-- A standing order: its side, its line, the price at which it counts, and what a fill leaves of it.
use Rattle.std.specs.Prelude.{ℕ, ◌-◌, min, max, Bool, true, false, cond, List, [], ◌∷◌, ℤ, neg_ℤ, ◌==◌, nat_lt}
use Rattle.margin.specs.declared.Order.{Order}
use Rattle.margin.specs.declared.Side.{Side}
use Rattle.margin.specs.declared.Side.TheVariants.{Buy, Sell}

-- + for a buy, − for a sell
abbrev pub signed : Side → ℤ → ℤ
signed Buy z = z
signed Sell z = neg_ℤ z

-- the first for a buy, the second for a sell
abbrev pub by_side : {X : Type 0} → Side → X → X → X
by_side Buy x y = x
by_side Sell x y = y

abbrev pub sells : Side → Bool
sells d = by_side d false true

-- the order is in this code
abbrev pub on : ℕ → Order → Bool
on code o = code == o.code

-- a buy counts at the greater of its own price and the sheet's, a sell at the lesser
abbrev pub counted_price : ℕ → Order → ℕ
counted_price price o = by_side o.side (max o.price price) (min o.price price)

-- a price that is worse than the order's own: above a buy's, below a sell's
abbrev pub worse_than_own : Order → ℕ → Bool
worse_than_own o price = by_side o.side (nat_lt o.price price) (nat_lt price o.price)

-- the order, open for q units less
abbrev pub less : ℕ → Order → Order
less q o = record { number = o.number; portfolio = o.portfolio; side = o.side; code = o.code; left = o.left - q; price = o.price }

-- a table of orders after a fill of q units of number n: one that is filled whole stands no longer
abbrev pub less_filled : ℕ → ℕ → List Order → List Order
less_filled n q [] = []
less_filled n q (o ∷ os) = cond (n == o.number) (cond (nat_lt q o.left) (less q o ∷ os) os) (o ∷ less_filled n q os)
