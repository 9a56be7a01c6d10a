-- The laws of every run: what holds of a history in which each answer was the rules', and each sheet closed.
use Rattle.std.specs.Prelude.{◌≡◌, ℕ, ◌+◌, ◌≤◌, Bool, true, false, not, ◌⊎◌, ◌↔◌, List, [], ◌∷◌, length, ℤ, pos, ◌≤ℤ◌, ◌<ℤ◌, is_some, Some, None, filter, Option, ◌==◌}
use Rattle.std.specs.List.{ContainsAt as Has, AllByRecursion}
use Rattle.margin.specs.declared.Instrument.{Instrument}
use Rattle.margin.specs.Sheets.{currency_at, Sheet, Closed, Apart, instrument_at}
use Rattle.margin.specs.Holdings.{Holding, first_ratio}
use Rattle.margin.specs.Fillings.{Filling, Allowed, filled, WorstCase}
use Rattle.margin.specs.Figures.{figures_of}
use Rattle.margin.specs.Limits.{gross, gross_limit, cover, closed_to_short}
use Rattle.rules.specs.Calls.{Paper, Notice, Entry, Call, Answer, open_portfolio, pay_in, pay_out, deliver_in, deliver_out, place, fill, cancel, figures, take_notice, record_paper, put_back, put_in_force, done, refused}
use Rattle.rules.specs.Histories.{History, opened_with, asked, places, in_force, portfolios, is_open, owner, standing, orders, cash, planned, lines, Spot, same_spot, line_exists, holding, ratio_now, notice_now, notice, journal}
use Rattle.rules.specs.Rules.{checks, then, worst_now, Ruled}

-- ---- moments
-- p is a moment of h: h itself, or one that it went through
pub data Moment (p : History) : History → Type 0 where
  last : Moment p p
  sooner : {h : History} {c : Call} {a : Answer} → Moment p h → Moment p (asked h c a)

-- of every moment
abbrev pub Always : (History → Type 0) → History → Type 0
Always P h = (q : History) → Moment q h → P q

-- of every call with its answer, and the moment before it
abbrev pub AtEachCall : (History → Call → Answer → Type 0) → History → Type 0
AtEachCall P h = (q : History) (c : Call) (a : Answer) → Moment (asked q c a) h → P q c a

-- a new sheet was accepted
abbrev pub new_sheet : Call → Answer → Bool
new_sheet (put_in_force t) a = done a
new_sheet (open_portfolio p) a = false
new_sheet (pay_in p c x) a = false
new_sheet (pay_out p c x) a = false
new_sheet (deliver_in p c q) a = false
new_sheet (deliver_out p c q) a = false
new_sheet (place o) a = false
new_sheet (fill n q x) a = false
new_sheet (cancel n) a = false
new_sheet (figures p) a = false
new_sheet (take_notice p) a = false
new_sheet (record_paper w t) a = false
new_sheet (put_back w) a = false

-- from p to q no new sheet was accepted
pub data OneSheet (p : History) : History → Type 0 where
  same : OneSheet p p
  more : {q : History} {c : Call} {a : Answer} → OneSheet p q → new_sheet c a ≡ false → OneSheet p (asked q c a)

-- ---- what the broker's own acts never do
-- the later is nought or more, or no lower than the earlier
abbrev pub Kept : ℤ → ℤ → Type 0
Kept earlier later = (pos 0 ≤ℤ later) ⊎ (earlier ≤ℤ later)

-- of any two moments under one sheet, every portfolio's worst case
abbrev pub WorstCaseKept : History → Type 0
WorstCaseKept h = (p q : History) → OneSheet p q → Moment q h → (j : ℕ) → Kept (worst_now p j) (worst_now q j)

-- the same of its cover in each code closed to short sale
abbrev pub CoverKept : History → Type 0
CoverKept h = (p q : History) → OneSheet p q → Moment q h → (j code : ℕ) → closed_to_short (in_force q) code ≡ true →
    Kept (cover (holding p j) code) (cover (holding q j) code)

-- in every currency the gross is within its limit
abbrev pub GrossKept : History → Type 0
GrossKept = Always (λ q. (j : ℕ) → AllByRecursion (λ c. gross (in_force q) (holding q j) c.code ≤ gross_limit) (in_force q).currencies)

-- ---- margin
-- the worst case is the least first ratio over all fillings
abbrev pub WorstCaseIsLeast : History → Type 0
WorstCaseIsLeast = Always (λ q. (j : ℕ) → WorstCase (in_force q) (holding q j) (worst_now q j))

-- the calls that are judged by it, and the portfolio
abbrev pub judged : Call → ℕ → Bool
judged (pay_out p c x) j = j == p
judged (deliver_out p c q) j = j == p
judged (place o) j = j == o.portfolio
judged (open_portfolio p) j = false
judged (pay_in p c x) j = false
judged (deliver_in p c q) j = false
judged (fill n q x) j = false
judged (cancel n) j = false
judged (figures p) j = false
judged (take_notice p) j = false
judged (record_paper w t) j = false
judged (put_back w) j = false
judged (put_in_force t) j = false

abbrev pub PassesEarlier : History → Call → Type 0
PassesEarlier q c = AllByRecursion (λ k. k.fails ≡ false) (filter (λ k. not (24 == k.number)) (checks q c))

abbrev pub SomeFillingWorsens : History → Call → ℕ → Type 0
SomeFillingWorsens q c j =
    let s : Sheet = in_force q in
    let after : Holding = holding (then q c) j in
    (f : Filling) × Allowed f after × (first_ratio s (filled s f after) <ℤ pos 0) × (first_ratio s (filled s f after) <ℤ worst_now q j)

-- an order, a payment out or a delivery out is refused for margin exactly where it passes every earlier check and,
-- were it accepted, some filling would end with a first ratio below nought and below the worst case before it
abbrev pub MarginRefusals : History → Type 0
MarginRefusals = AtEachCall (λ q c a. (j : ℕ) → judged c j ≡ true → (a ≡ refused 24) ↔ (PassesEarlier q c × SomeFillingWorsens q c j))

-- ---- what a call leaves as it was
-- what j holds, its figures and its notice
pub record Unchanged (p q : History) (j : ℕ) : Type 0 where
  pub same_holding : holding q j ≡ holding p j
  pub same_figures : figures_of (in_force q) (holding q j) ≡ figures_of (in_force p) (holding p j)
  pub same_notice : notice q j ≡ notice p j

-- the call is for portfolio j, or for all
abbrev pub concerns : History → Call → ℕ → Bool
concerns h (open_portfolio p) j = j == p
concerns h (pay_in p c x) j = j == p
concerns h (pay_out p c x) j = j == p
concerns h (deliver_in p c q) j = j == p
concerns h (deliver_out p c q) j = j == p
concerns h (place o) j = j == o.portfolio
concerns h (fill n q x) j = j == owner (standing h n)
concerns h (cancel n) j = j == owner (standing h n)
concerns h (figures p) j = false
concerns h (take_notice p) j = j == p
concerns h (record_paper w t) j = false
concerns h (put_back w) j = j == w.portfolio
concerns h (put_in_force t) j = true

-- a call for one portfolio leaves all others unchanged
abbrev pub OthersUntouched : History → Type 0
OthersUntouched = AtEachCall (λ q c a. (j : ℕ) → concerns q c j ≡ false → Unchanged q (asked q c a) j)

-- everything there is
pub record AllUnchanged (p q : History) : Type 0 where
  pub each_portfolio : (j : ℕ) → Unchanged p q j
  pub same_sheet : in_force q ≡ in_force p
  pub same_portfolios : portfolios q ≡ portfolios p
  pub same_orders : orders q ≡ orders p
  pub same_lines : lines q ≡ lines p
  pub same_journal : journal q ≡ journal p

-- a refused call changes nothing
abbrev pub RefusalsChangeNothing : History → Type 0
RefusalsChangeNothing = AtEachCall (λ q c a. (n : ℕ) → a ≡ refused n → AllUnchanged q (asked q c a))

-- a new sheet moves nothing that anyone holds
abbrev pub NewSheetsMoveNothing : History → Type 0
NewSheetsMoveNothing h = (q : History) (t : Sheet) (a : Answer) → Moment (asked q (put_in_force t) a) h → (j : ℕ) →
    holding (asked q (put_in_force t) a) j ≡ holding q j

-- and no call changes which currencies there are, or the currency of a code that has a line
abbrev pub currency_of : Option Instrument → Option ℕ
currency_of None = None
currency_of (Some i) = Some i.currency

pub record SameCurrencies (p q : History) : Type 0 where
  pub of_the_register : (c : ℕ) → is_some (currency_at (in_force q) c) ≡ is_some (currency_at (in_force p) c)
  pub of_lines : AllByRecursion (λ b. currency_of (instrument_at (in_force q) b.code) ≡ currency_of (instrument_at (in_force p) b.code)) (lines p)

abbrev pub CurrenciesKept : History → Type 0
CurrenciesKept = AtEachCall (λ q c a. SameCurrencies q (asked q c a))

-- ---- orders, lines and portfolios
pub record SoundOrders (q : History) : Type 0 where
  pub numbers_distinct : Apart (λ o. o.number) (orders q)
  pub of_open_portfolios : AllByRecursion (λ o. is_open q o.portfolio ≡ true) (orders q)
  pub something_left : AllByRecursion (λ o. 1 ≤ o.left) (orders q)
  pub each_has_its_line : AllByRecursion (λ o. Has (lines q) record { portfolio = o.portfolio; code = o.code }) (orders q)

abbrev pub OrdersSound : History → Type 0
OrdersSound = Always SoundOrders

abbrev pub Once : List Spot → Type 0
Once [] = Unit {0}
Once (b ∷ bs) = AllByRecursion (λ d. same_spot b d ≡ false) bs × Once bs

-- there is a line exactly while its planned position is not 0 or an order stands on it, once, and its code is in the sheet
pub record SoundLines (q : History) : Type 0 where
  pub exact : (b : Spot) → Has (lines q) b ↔ (line_exists q b.portfolio b.code ≡ true)
  pub once : Once (lines q)
  pub in_the_sheet : AllByRecursion (λ b. is_some (instrument_at (in_force q) b.code) ≡ true) (lines q)

abbrev pub LinesSound : History → Type 0
LinesSound = Always SoundLines

-- no portfolio is opened twice, and one that is not open has nothing
pub record SoundPortfolios (q : History) : Type 0 where
  pub each_once : Apart (λ p. p) (portfolios q)
  pub unopened_no_cash : (j : ℕ) → is_open q j ≡ false → (c : ℕ) → cash q j c ≡ pos 0
  pub unopened_no_position : (j : ℕ) → is_open q j ≡ false → (code : ℕ) → planned q j code ≡ pos 0
  pub unopened_no_order : (j : ℕ) → is_open q j ≡ false → AllByRecursion (λ o. (j == o.portfolio) ≡ false) (orders q)
  pub unopened_no_notice : (j : ℕ) → is_open q j ≡ false → notice q j ≡ None

abbrev pub PortfoliosSound : History → Type 0
PortfoliosSound = Always SoundPortfolios

-- no more is kept than there are places for
pub record Placed (q : History) : Type 0 where
  pub portfolios_placed : length (portfolios q) ≤ (places q).portfolios
  pub lines_placed : length (lines q) ≤ (places q).lines
  pub orders_placed : length (orders q) ≤ (places q).orders
  pub journal_placed : length (journal q) ≤ (places q).journal

abbrev pub WithinPlaces : History → Type 0
WithinPlaces = Always Placed

-- ---- notices and journal
-- a call that an owed notice ends with: it is taken, or one is put back in its place
abbrev pub settles : Call → ℕ → Bool
settles (take_notice p) j = j == p
settles (put_back w) j = j == w.portfolio
settles (open_portfolio p) j = false
settles (pay_in p c x) j = false
settles (pay_out p c x) j = false
settles (deliver_in p c q) j = false
settles (deliver_out p c q) j = false
settles (place o) j = false
settles (fill n q x) j = false
settles (cancel n) j = false
settles (figures p) j = false
settles (record_paper w t) j = false
settles (put_in_force t) j = false

pub record SoundNotices (q : History) (c : Call) (a : Answer) : Type 0 where
  -- none is owed, and the first ratio falls from nought or more to below: owed with the figures of that moment
  pub owed_at_a_fall : (j : ℕ) → done a ≡ true → is_open q j ≡ true → notice q j ≡ None → settles c j ≡ false →
      pos 0 ≤ℤ ratio_now q j → ratio_now (asked q c a) j <ℤ pos 0 → notice (asked q c a) j ≡ Some (notice_now (asked q c a) j)
  -- it does not fall so: none is owed still
  pub only_at_a_fall : (j : ℕ) → notice q j ≡ None → settles c j ≡ false → (ratio_now q j <ℤ pos 0) ⊎ (pos 0 ≤ℤ ratio_now (asked q c a) j) → notice (asked q c a) j ≡ None
  -- one that is owed keeps its first figures
  pub first_stands : (j : ℕ) (n : Notice) → notice q j ≡ Some n → settles c j ≡ false → notice (asked q c a) j ≡ Some n

abbrev pub NoticesSound : History → Type 0
NoticesSound = AtEachCall SoundNotices

-- taking one leads to none; putting a paper back leads to one with the paper's figures, if the portfolio is open
abbrev pub NoticesTaken : History → Type 0
NoticesTaken h = (q : History) (p : ℕ) (a : Answer) → Moment (asked q (take_notice p) a) h → done a ≡ true → notice (asked q (take_notice p) a) p ≡ None

abbrev pub NoticesPutBack : History → Type 0
NoticesPutBack h = (q : History) (w : Paper) (a : Answer) → Moment (asked q (put_back w) a) h → is_open q w.portfolio ≡ true → notice (asked q (put_back w) a) w.portfolio ≡ Some w.notice

-- serials count from 1
abbrev pub CountsFrom : ℕ → List Entry → Type 0
CountsFrom n [] = Unit {0}
CountsFrom n (e ∷ es) = (e.serial ≡ n) × CountsFrom (n + 1) es

abbrev pub JournalNumbered : History → Type 0
JournalNumbered = Always (λ q. CountsFrom 1 (journal q))

-- ---- all of them
pub record LawfulRun (h : History) : Type 0 where
  pub worst_case_kept : WorstCaseKept h
  pub cover_kept : CoverKept h
  pub gross_kept : GrossKept h
  pub worst_case_is_least : WorstCaseIsLeast h
  pub margin_refusals : MarginRefusals h
  pub others_untouched : OthersUntouched h
  pub refusals_change_nothing : RefusalsChangeNothing h
  pub new_sheets_move_nothing : NewSheetsMoveNothing h
  pub currencies_kept : CurrenciesKept h
  pub orders_sound : OrdersSound h
  pub lines_sound : LinesSound h
  pub portfolios_sound : PortfoliosSound h
  pub within_places : WithinPlaces h
  pub notices_sound : NoticesSound h
  pub notices_taken : NoticesTaken h
  pub notices_put_back : NoticesPutBack h
  pub journal_numbered : JournalNumbered h

-- every sheet that was put in force, or offered to be, was closed
abbrev pub offers_closed : Call → Type 0
offers_closed (put_in_force t) = Closed t
offers_closed (open_portfolio p) = Unit {0}
offers_closed (pay_in p c x) = Unit {0}
offers_closed (pay_out p c x) = Unit {0}
offers_closed (deliver_in p c q) = Unit {0}
offers_closed (deliver_out p c q) = Unit {0}
offers_closed (place o) = Unit {0}
offers_closed (fill n q x) = Unit {0}
offers_closed (cancel n) = Unit {0}
offers_closed (figures p) = Unit {0}
offers_closed (take_notice p) = Unit {0}
offers_closed (record_paper w t) = Unit {0}
offers_closed (put_back w) = Unit {0}

abbrev pub ClosedSheets : History → Type 0
ClosedSheets (opened_with s n) = Closed s
ClosedSheets (asked h c a) = ClosedSheets h × offers_closed c

-- whatever was asked, in whatever order
abbrev pub EveryRunIsLawful : Type 0
EveryRunIsLawful = (h : History) → ClosedSheets h → Ruled h → LawfulRun h
