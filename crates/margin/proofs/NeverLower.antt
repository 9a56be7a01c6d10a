-- After more cash, more units or fewer orders the worst case is no lower.
use Rattle.std.proofs.Common.{◌≡◌, ℕ, Bool, true, false, cond, ◌&&◌, eqb, List, ℤ, pos, ◌+ℤ◌, ◌≤ℤ◌, filter, refl, ap}
use lib.Signed.{≤ℤ_refl}
use Rattle.margin.specs.declared.Instrument.{Instrument}
use Rattle.margin.specs.declared.Order.{Order}
use Rattle.margin.specs.declared.Piece.{Piece}
use Rattle.margin.specs.Sheets.{Sheet, Closed}
use Rattle.margin.specs.Orders.{on}
use Rattle.margin.specs.Holdings.{lined, Lined, Holding, pieces_of}
use Rattle.margin.specs.Fillings.{low, worst}
use Rattle.margin.proofs.IdleLines.{worst_on, ratio_on_le, ratio_on_same, worst_is, worst_whole}
use Rattle.margin.proofs.Integers.{plus_both, mul_le, floor_le, plus_le_right, drag_none, le_eq}
use Rattle.margin.proofs.Lines.{gain, drags, if_le}
use Rattle.margin.proofs.Sums.{sum_same, sum_le, sum_fewer, least_le}

-- the orders of the second can lose no more than those of the first
abbrev pub Lighter : List Order → List Order → Type 0
Lighter os ns = (i : Instrument) (p : Piece) → drags i os p ≤ℤ drags i ns p

-- the second has no less cash and no fewer units, and orders that can lose no more
pub record NoWorse (h k : Holding) : Type 0 where
  pub cash : (c : ℕ) → h.cash c ≤ℤ k.cash c
  pub planned : (code : ℕ) → h.planned code ≤ℤ k.planned code
  pub orders : Lighter h.orders k.orders

pub lighter_same : (os ns : List Order) → os ≡ ns → Lighter os ns
lighter_same os ns e i p = le_eq (≤ℤ_refl (drags i os p)) (ap (λ os. drags i os p) e)

pub if_none : (t : Bool) (z : ℤ) → z ≤ℤ pos 0 → cond t z (pos 0) ≤ℤ pos 0
if_none true z h = h
if_none false z h = ≤ℤ_refl (pos 0)

pub lighter_kept : (t : Order → Bool) (os : List Order) → Lighter os (filter t os)
lighter_kept t os i p = sum_fewer _ (λ o. if_none (on i.code o) _ (drag_none o.left (gain i.price p o))) t os

module _ (s : Sheet) where
  pub low_le : (h k : Holding) → NoWorse h k → (i : Instrument) → low s h i ≤ℤ low s k i
  low_le h k n i = least_le _ _ (λ p. floor_le _ _ (plus_both _ _ _ _ (mul_le i.price _ _ (plus_le_right (pos p.allowance) _ _ (mul_le p.weight _ _ (n.planned i.code)))) (n.orders i p))) (pieces_of s i)

  pub worst_on_le : (t : ℕ → Bool) (h k : Holding) → NoWorse h k → worst_on s t h ≤ℤ worst_on s t k
  worst_on_le t h k n = ratio_on_le s t t (low s h) (low s k) h.cash k.cash (λ c. plus_both _ _ _ _ (n.cash c) (sum_le _ _ (λ i. if_le (eqb c i.currency && t i.code) _ _ (low_le h k n i)) s.instruments))

  pub worst_on_tests : (t u : ℕ → Bool) (h : Holding) → ((code : ℕ) → t code ≡ u code) → worst_on s t h ≡ worst_on s u h
  worst_on_tests t u h e = ratio_on_same s t u (low s h) (low s h) h.cash h.cash (λ c. ap (λ z. h.cash c +ℤ z) (sum_same _ _ (λ i. ap (λ b. cond (eqb c i.currency && b) (low s h i) (pos 0)) (e i.code)) s.instruments))

  -- with the same lines, on any sheet
  pub never_lower : (h k : Holding) → ((code : ℕ) → lined h code ≡ lined k code) → NoWorse h k → worst s h ≤ℤ worst s k
  never_lower h k l n = rw (worst_is s h, worst_is s k, ← (worst_on_tests (lined h) (lined k) k l)) (worst_on_le (lined h) h k n)

  -- each with the lines that it needs, on a closed sheet
  pub never_lower_lined : Closed s → (h k : Holding) → Lined h → Lined k → NoWorse h k → worst s h ≤ℤ worst s k
  never_lower_lined c h k a b n = rw (worst_whole s c h a, worst_whole s c k b) (worst_on_le (λ _. true) h k n)

  -- ---- one by one
  pub more_cash : (h : Holding) (cash : ℕ → ℤ) → ((c : ℕ) → h.cash c ≤ℤ cash c) → worst s h ≤ℤ worst s record { cash = cash; planned = h.planned; lines = h.lines; orders = h.orders }
  more_cash h cash l = never_lower h _ (λ code. refl) record { cash = l; planned = λ code. ≤ℤ_refl _; orders = lighter_same _ _ refl }

  pub more_units : (h : Holding) (planned : ℕ → ℤ) → ((code : ℕ) → h.planned code ≤ℤ planned code) → worst s h ≤ℤ worst s record { cash = h.cash; planned = planned; lines = h.lines; orders = h.orders }
  more_units h planned l = never_lower h _ (λ code. refl) record { cash = λ c. ≤ℤ_refl _; planned = l; orders = lighter_same _ _ refl }

  pub fewer_orders : (h : Holding) (t : Order → Bool) → worst s h ≤ℤ worst s record { cash = h.cash; planned = h.planned; lines = h.lines; orders = filter t h.orders }
  fewer_orders h t = never_lower h _ (λ code. refl) record { cash = λ c. ≤ℤ_refl _; planned = λ code. ≤ℤ_refl _; orders = lighter_kept t h.orders }
