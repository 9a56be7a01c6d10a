-- What is true of one portfolio on a closed sheet, each fact by its name.
use Rattle.std.specs.Prelude.{◌≡◌, ℕ, ◌*◌, Bool, false, cond, ◌⊎◌, List, map, ℤ, pos, ◌+ℤ◌, ◌*ℤ◌, neg_ℤ, ◌≤ℤ◌, Some, filter, ◌==◌, nat_eq, nat_lt}
use Rattle.std.specs.List.{AllByRecursion}
use Rattle.margin.specs.declared.Order.{Order}
use Rattle.margin.specs.declared.Piece.{Piece}
use Rattle.margin.specs.Numbers.{the_first}
use Rattle.margin.specs.Sheets.{Sheet, KeepsTheRules, Closed, Apart, priced_in}
use Rattle.margin.specs.Orders.{signed, worse_than_own, less_filled}
use Rattle.margin.specs.Holdings.{Holding, lined, Idle, Lined, worth, shocked, value_of, first_ratio}
use Rattle.margin.specs.Fillings.{Filling, Allowed, filled, WorstCase, worst, FitsEach, filled_each}
use Rattle.margin.specs.Figures.{figures_of}
use Rattle.margin.specs.Limits.{gross}

-- the formula gives the least first ratio over all fillings: none ends below it, and one ends there
abbrev pub WorstCaseIsLeastOverFillings : Type 0
WorstCaseIsLeastOverFillings = (s : Sheet) → Closed s → (h : Holding) → WorstCase s h (worst s h)

-- a filling can be said order by order, as a list of numbers: each filling is such a list, and where no two orders have
-- the same number each list that fits is a filling
pub record FillingsAreLists : Type 0 where
  pub each_filling_is_a_list : (s : Sheet) (h : Holding) (f : Filling) → Allowed f h → FitsEach h.orders (map f h.orders) × (filled s f h ≡ filled_each s (map f h.orders) h)
  pub each_list_is_a_filling : (s : Sheet) (h : Holding) (ns : List ℕ) → Apart (λ o. o.number) h.orders → FitsEach h.orders ns → (f : Filling) × Allowed f h × (filled s f h ≡ filled_each s ns h)

-- ---- the figures in order
abbrev pub NoughtIsWorthNought : Type 0
NoughtIsWorthNought = (ps : List Piece) → KeepsTheRules ps → (price : ℕ) → worth ps price (pos 0) ≡ pos 0

abbrev pub WorthAtMostPriceTimesQuantity : Type 0
WorthAtMostPriceTimesQuantity = (ps : List Piece) → KeepsTheRules ps → (price : ℕ) (q : ℤ) → worth ps price q ≤ℤ (pos price *ℤ q)

abbrev pub ShockedAtMostItself : Type 0
ShockedAtMostItself = (s : Sheet) → Closed s → AllByRecursion (λ c. (e : ℤ) → shocked s c.code e ≤ℤ e) s.currencies

abbrev pub FirstRatioAtMostValue : Type 0
FirstRatioAtMostValue = (s : Sheet) → Closed s → (h : Holding) → first_ratio s h ≤ℤ value_of s h

abbrev pub InitialMarginNeverNegative : Type 0
InitialMarginNeverNegative = (s : Sheet) → Closed s → (h : Holding) → pos 0 ≤ℤ (figures_of s h).initial

-- half of the initial margin, rounded up
pub record MinimumMarginIsHalfRoundedUp : Type 0 where
  pub no_less : (s : Sheet) (h : Holding) → (figures_of s h).initial ≤ℤ (pos 2 *ℤ (figures_of s h).minimum)
  pub by_one_at_most : (s : Sheet) (h : Holding) → (pos 2 *ℤ (figures_of s h).minimum) ≤ℤ ((figures_of s h).initial +ℤ pos 1)

abbrev pub WorstCaseAtMostFirstRatio : Type 0
WorstCaseAtMostFirstRatio = (s : Sheet) (h : Holding) → worst s h ≤ℤ first_ratio s h

-- ---- what never lowers the worst case
abbrev pub MoreCashNeverLowers : Type 0
MoreCashNeverLowers = (s : Sheet) (h : Holding) (more : ℕ → ℤ) → ((c : ℕ) → h.cash c ≤ℤ more c) →
    worst s h ≤ℤ worst s record { cash = more; planned = h.planned; lines = h.lines; orders = h.orders }

abbrev pub MoreUnitsNeverLower : Type 0
MoreUnitsNeverLower = (s : Sheet) (h : Holding) (more : ℕ → ℤ) → ((code : ℕ) → h.planned code ≤ℤ more code) →
    worst s h ≤ℤ worst s record { cash = h.cash; planned = more; lines = h.lines; orders = h.orders }

abbrev pub FewerOrdersNeverLower : Type 0
FewerOrdersNeverLower = (s : Sheet) (h : Holding) (stays : Order → Bool) →
    worst s h ≤ℤ worst s record { cash = h.cash; planned = h.planned; lines = h.lines; orders = filter stays h.orders }

-- x units of the order that stands under the number n are filled at a price p no worse than its own: from h to k
pub record Fill (s : Sheet) (n x p : ℕ) (o : Order) (h k : Holding) : Type 0 where
  pub standing : the_first (λ r. nat_eq n r.number) h.orders ≡ Some o
  pub enough : nat_lt o.left x ≡ false
  pub fair : worse_than_own o p ≡ false
  pub cash : (c : ℕ) → k.cash c ≡ h.cash c +ℤ cond (priced_in s o.code c) (neg_ℤ (signed o.side (pos (x * p)))) (pos 0)
  pub planned : (code : ℕ) → k.planned code ≡ h.planned code +ℤ cond (code == o.code) (signed o.side (pos x)) (pos 0)
  pub orders : k.orders ≡ less_filled n x h.orders

abbrev pub FillWithinOwnPriceNeverLowers : Type 0
FillWithinOwnPriceNeverLowers = (s : Sheet) → Closed s → (n x p : ℕ) (o : Order) (h k : Holding) → Fill s n x p o h k → Lined h → Lined k → worst s h ≤ℤ worst s k

-- ---- lines with nothing planned and no order
-- the same but for such lines
pub record SameButIdleLines (h k : Holding) : Type 0 where
  pub cash : (c : ℕ) → h.cash c ≡ k.cash c
  pub planned : (code : ℕ) → h.planned code ≡ k.planned code
  pub orders : h.orders ≡ k.orders
  pub lines : (code : ℕ) → (lined h code ≡ lined k code) ⊎ Idle h code

abbrev pub IdleLinesChangeNoFigure : Type 0
IdleLinesChangeNoFigure = (s : Sheet) → Closed s → (h k : Holding) → SameButIdleLines h k → figures_of s h ≡ figures_of s k

abbrev pub IdleLinesChangeNoGross : Type 0
IdleLinesChangeNoGross = (s : Sheet) (h k : Holding) → SameButIdleLines h k → (c : ℕ) → gross s h c ≡ gross s k c
