-- What standing orders may yet become: every filling of them, and the worst case, the least first ratio over all fillings.
use Rattle.std.specs.Prelude.{◌≡◌, ℕ, ◌*◌, ◌≤◌, cond, List, [], ◌∷◌, ℤ, pos, ◌+ℤ◌, ◌-ℤ◌, ◌*ℤ◌, ◌≤ℤ◌}
use Rattle.std.specs.Int.{int_min}
use Rattle.std.specs.List.{AllByRecursion}
use Rattle.margin.specs.declared.Instrument.{Instrument}
use Rattle.margin.specs.declared.Order.{Order}
use Rattle.margin.specs.declared.Piece.{Piece}
use Rattle.margin.specs.Numbers.{down, total, least}
use Rattle.margin.specs.Sheets.{Sheet}
use Rattle.margin.specs.Orders.{signed, on, counted_price}
use Rattle.margin.specs.Holdings.{Holding, pieces_of, held, ratio, first_ratio}

-- of each standing order a whole number of units, from nought to its open quantity
abbrev pub Filling : Type 0
Filling = Order → ℕ

abbrev pub Allowed : Filling → Holding → Type 0
Allowed f h = AllByRecursion (λ o. f o ≤ o.left) h.orders

-- the most that an order can lose on a piece, in ten-thousandths: it is filled wholly or not at all
abbrev pub drag : Instrument → Piece → Order → ℤ
drag i p o = pos o.left *ℤ int_min (pos 0) (signed o.side (pos (i.price * p.weight) -ℤ pos (10000 * counted_price i.price o)))

module _ (s : Sheet) where
  -- what a filling moves: quantities, and cash at counted prices
  abbrev pub filled : Filling → Holding → Holding
  filled f h = record {
    cash = λ c. h.cash c -ℤ total (λ i. total (λ o. cond (on i.code o) (signed o.side (pos (f o * counted_price i.price o))) (pos 0)) h.orders) (held s h c);
    planned = λ code. h.planned code +ℤ total (λ o. cond (on code o) (signed o.side (pos (f o))) (pos 0)) h.orders;
    lines = h.lines;
    orders = h.orders;
  }

  -- w is the least first ratio over all fillings: none ends below it, and one ends there
  pub record WorstCase (h : Holding) (w : ℤ) : Type 0 where
    pub bound : (f : Filling) → Allowed f h → w ≤ℤ first_ratio s (filled f h)
    pub reached : (f : Filling) × Allowed f h × (first_ratio s (filled f h) ≡ w)

  -- ---- the same by a formula
  -- the least that a line can come to, with the cash of its orders: on each piece, all that the orders can lose
  abbrev pub low : Holding → Instrument → ℤ
  low h i =
      least (λ p. down (pos i.price *ℤ (pos p.weight *ℤ h.planned i.code +ℤ pos p.allowance)
      +ℤ total (λ o. cond (on i.code o) (drag i p o) (pos 0)) h.orders) 10000) (pieces_of s i)

  abbrev pub worst : Holding → ℤ
  worst h = ratio s (low h) h

-- ---- fillings as lists of numbers, one for each order of the table
abbrev pub FitsEach : List Order → List ℕ → Type 0
FitsEach [] [] = Unit {0}
FitsEach [] (n ∷ ns) = ⊥
FitsEach (o ∷ os) [] = ⊥
FitsEach (o ∷ os) (n ∷ ns) = (n ≤ o.left) × FitsEach os ns

abbrev pub total_each : (Order → ℕ → ℤ) → List Order → List ℕ → ℤ
total_each g [] ns = pos 0
total_each g (o ∷ os) [] = pos 0
total_each g (o ∷ os) (n ∷ ns) = g o n +ℤ total_each g os ns

abbrev pub filled_each : Sheet → List ℕ → Holding → Holding
filled_each s ns h = record {
  cash = λ c. h.cash c -ℤ total (λ i. total_each (λ o n. cond (on i.code o) (signed o.side (pos (n * counted_price i.price o))) (pos 0)) h.orders ns) (held s h c);
  planned = λ code. h.planned code +ℤ total_each (λ o n. cond (on code o) (signed o.side (pos n)) (pos 0)) h.orders ns;
  lines = h.lines;
  orders = h.orders;
}
