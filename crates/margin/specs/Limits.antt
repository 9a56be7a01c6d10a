-- What bounds a portfolio: gross, cover, and the two tests by which calls are judged.
use Rattle.std.specs.Prelude.{ℕ, ◌+◌, ◌*◌, max, Bool, cond, not, ◌&&◌, List, [], ◌∷◌, ℤ, pos, ◌-ℤ◌, filter, ◌==◌, nat_lt, unsigned_abs}
use Rattle.margin.specs.declared.Instrument.{Instrument}
use Rattle.margin.specs.declared.Order.{Order}
use Rattle.margin.specs.Numbers.{count, any, below}
use Rattle.margin.specs.Sheets.{Sheet, shortable}
use Rattle.margin.specs.Orders.{sells, on}
use Rattle.margin.specs.Holdings.{Holding, held}
use Rattle.margin.specs.Fillings.{worst}

-- ---- gross
abbrev pub gross_limit : ℕ
gross_limit = 200000000000

-- the greatest of a price and the orders' own
abbrev pub highest : ℕ → List Order → ℕ
highest price [] = price
highest price (o ∷ os) = max o.price (highest price os)

module _ (s : Sheet) where
  -- (|planned| + open quantities) × the greatest of the sheet's price and the orders' own
  abbrev pub gross_of_line : Holding → Instrument → ℕ
  gross_of_line h i =
      (unsigned_abs (h.planned i.code) + count (λ o. cond (on i.code o) o.left 0) h.orders)
      * highest i.price (filter (on i.code) h.orders)

  -- |cash| plus the currency's lines
  abbrev pub gross : Holding → ℕ → ℕ
  gross h c = unsigned_abs (h.cash c) + count (gross_of_line h) (held s h c)

  -- over the limit in some currency
  abbrev pub over_gross : Holding → Bool
  over_gross h = any (λ c. nat_lt gross_limit (gross h c.code)) s.currencies

-- ---- cover: planned less standing sells
abbrev pub cover : Holding → ℕ → ℤ
cover h code = h.planned code -ℤ pos (count (λ o. cond (on code o && sells o.side) o.left 0) h.orders)

abbrev pub closed_to_short : Sheet → ℕ → Bool
closed_to_short s code = any (λ i. (code == i.code) && not (shortable i.kind)) s.instruments

-- ---- margin: the worst case afterwards is below nought and below the one before
abbrev pub worsens : Sheet → Holding → Holding → Bool
worsens s before after = below (worst s after) (pos 0) && below (worst s after) (worst s before)
