-- A history: what a register was opened with, and then each call with its answer. What it says of sheet, cash,
-- positions, orders, lines, notices and journal; nothing here speaks of how a register is kept.
use Rattle.std.specs.Prelude.{ℕ, ◌+◌, ◌*◌, Bool, true, false, cond, not, ◌&&◌, ◌||◌, List, [], ◌∷◌, ◌++◌, length, ℤ, pos, ◌+ℤ◌, neg_ℤ, Some, None, filter, Option, ◌==◌, nat_eq, unsigned_abs}
use Rattle.margin.specs.declared.Figures.{Figures}
use Rattle.margin.specs.declared.Order.{Order}
use Rattle.margin.specs.Numbers.{any, the_first, below}
use Rattle.margin.specs.Sheets.{priced_in, Sheet}
use Rattle.margin.specs.Orders.{less_filled, signed}
use Rattle.margin.specs.Holdings.{Holding, first_ratio}
use Rattle.margin.specs.Figures.{figures_of}
use Rattle.rules.specs.Calls.{Notice, Entry, Call, Answer, open_portfolio, pay_in, pay_out, deliver_in, deliver_out, place, fill, cancel, figures, take_notice, record_paper, put_back, put_in_force, done}

-- how many portfolios, lines, orders and journal entries there is room for
pub record Places : Type 0 where
  pub portfolios : ℕ
  pub lines : ℕ
  pub orders : ℕ
  pub journal : ℕ

pub data History : Type 0 where
  opened_with : Sheet → Places → History
  asked : History → Call → Answer → History

abbrev pub places : History → Places
places (opened_with s n) = n
places (asked h c a) = places h

-- the sheet in force: the newest that was accepted
abbrev pub brings : Call → Sheet → Sheet
brings (put_in_force t) s = t
brings (open_portfolio p) s = s
brings (pay_in p c x) s = s
brings (pay_out p c x) s = s
brings (deliver_in p c q) s = s
brings (deliver_out p c q) s = s
brings (place o) s = s
brings (fill n q x) s = s
brings (cancel n) s = s
brings (figures p) s = s
brings (take_notice p) s = s
brings (record_paper p t) s = s
brings (put_back p) s = s

abbrev pub in_force : History → Sheet
in_force (opened_with s n) = s
in_force (asked h c a) = cond (done a) (brings c (in_force h)) (in_force h)

-- the open portfolios, newest first
abbrev pub opens : Call → List ℕ → List ℕ
opens (open_portfolio p) ps = p ∷ ps
opens (pay_in p c x) ps = ps
opens (pay_out p c x) ps = ps
opens (deliver_in p c q) ps = ps
opens (deliver_out p c q) ps = ps
opens (place o) ps = ps
opens (fill n q x) ps = ps
opens (cancel n) ps = ps
opens (figures p) ps = ps
opens (take_notice p) ps = ps
opens (record_paper p t) ps = ps
opens (put_back p) ps = ps
opens (put_in_force t) ps = ps

abbrev pub portfolios : History → List ℕ
portfolios (opened_with s n) = []
portfolios (asked h c a) = cond (done a) (opens c (portfolios h)) (portfolios h)

abbrev pub is_open : History → ℕ → Bool
is_open h p = any (nat_eq p) (portfolios h)

-- the standing orders: placed, open for the quantity less the fills, until that is 0 or they are cancelled
abbrev pub reorders : Call → List Order → List Order
reorders (place o) os = o ∷ os
reorders (fill n q x) os = less_filled n q os
reorders (cancel n) os = filter (λ o. not (n == o.number)) os
reorders (open_portfolio p) os = os
reorders (pay_in p c x) os = os
reorders (pay_out p c x) os = os
reorders (deliver_in p c q) os = os
reorders (deliver_out p c q) os = os
reorders (figures p) os = os
reorders (take_notice p) os = os
reorders (record_paper p t) os = os
reorders (put_back p) os = os
reorders (put_in_force t) os = os

abbrev pub orders : History → List Order
orders (opened_with s n) = []
orders (asked h c a) = cond (done a) (reorders c (orders h)) (orders h)

abbrev pub standing : History → ℕ → Option Order
standing h n = the_first (λ o. nat_eq n o.number) (orders h)

-- whose order it is; no portfolio has the number 0
abbrev pub owner : Option Order → ℕ
owner None = 0
owner (Some o) = o.portfolio

-- what a fill of an order brings to portfolio j: units of a code, and cash of a currency
abbrev pub units_filled : Option Order → ℕ → ℕ → ℕ → ℤ
units_filled None q j code = pos 0
units_filled (Some o) q j code = cond (j == o.portfolio && code == o.code) (signed o.side (pos q)) (pos 0)

abbrev pub cash_filled : Sheet → Option Order → ℕ → ℕ → ℕ → ℤ
cash_filled s None amount j k = pos 0
cash_filled s (Some o) amount j k = cond (j == o.portfolio && priced_in s o.code k) (neg_ℤ (signed o.side (pos amount))) (pos 0)

-- what an accepted call adds to the cash of portfolio j in currency k
abbrev pub pays : History → Call → ℕ → ℕ → ℤ
pays h (pay_in p c x) j k = cond (j == p && k == c) (pos x) (pos 0)
pays h (pay_out p c x) j k = cond (j == p && k == c) (neg_ℤ (pos x)) (pos 0)
pays h (fill n q x) j k = cash_filled (in_force h) (standing h n) (q * x) j k
pays h (open_portfolio p) j k = pos 0
pays h (deliver_in p c q) j k = pos 0
pays h (deliver_out p c q) j k = pos 0
pays h (place o) j k = pos 0
pays h (cancel n) j k = pos 0
pays h (figures p) j k = pos 0
pays h (take_notice p) j k = pos 0
pays h (record_paper w t) j k = pos 0
pays h (put_back w) j k = pos 0
pays h (put_in_force t) j k = pos 0

-- paid in less paid out, less quantity × price of buys' fills, plus that of sells'
abbrev pub cash : History → ℕ → ℕ → ℤ
cash (opened_with s n) j k = pos 0
cash (asked h c a) j k = cond (done a) (cash h j k +ℤ pays h c j k) (cash h j k)

-- what an accepted call adds to the planned position of portfolio j in a code
abbrev pub delivers : History → Call → ℕ → ℕ → ℤ
delivers h (deliver_in p c q) j code = cond (j == p && code == c) (pos q) (pos 0)
delivers h (deliver_out p c q) j code = cond (j == p && code == c) (neg_ℤ (pos q)) (pos 0)
delivers h (fill n q x) j code = units_filled (standing h n) q j code
delivers h (open_portfolio p) j code = pos 0
delivers h (pay_in p c x) j code = pos 0
delivers h (pay_out p c x) j code = pos 0
delivers h (place o) j code = pos 0
delivers h (cancel n) j code = pos 0
delivers h (figures p) j code = pos 0
delivers h (take_notice p) j code = pos 0
delivers h (record_paper w t) j code = pos 0
delivers h (put_back w) j code = pos 0
delivers h (put_in_force t) j code = pos 0

-- delivered in less out, plus bought less sold
abbrev pub planned : History → ℕ → ℕ → ℤ
planned (opened_with s n) j code = pos 0
planned (asked h c a) j code = cond (done a) (planned h j code +ℤ delivers h c j code) (planned h j code)

-- a line of a portfolio in a code exists while its planned position is not 0 or an order stands on it
abbrev pub line_exists : History → ℕ → ℕ → Bool
line_exists h j code = not (unsigned_abs (planned h j code) == 0) || any (λ o. (j == o.portfolio) && code == o.code) (orders h)

-- the line that a call can bring about or end
pub record Spot : Type 0 where
  pub portfolio : ℕ
  pub code : ℕ

abbrev pub spot_of : Option Order → List Spot
spot_of None = []
spot_of (Some o) = record { portfolio = o.portfolio; code = o.code } ∷ []

abbrev pub touches : History → Call → List Spot
touches h (deliver_in p c q) = record { portfolio = p; code = c } ∷ []
touches h (deliver_out p c q) = record { portfolio = p; code = c } ∷ []
touches h (place o) = record { portfolio = o.portfolio; code = o.code } ∷ []
touches h (fill n q x) = spot_of (standing h n)
touches h (cancel n) = spot_of (standing h n)
touches h (open_portfolio p) = []
touches h (pay_in p c x) = []
touches h (pay_out p c x) = []
touches h (figures p) = []
touches h (take_notice p) = []
touches h (record_paper w t) = []
touches h (put_back w) = []
touches h (put_in_force t) = []

abbrev pub same_spot : Spot → Spot → Bool
same_spot a b = a.portfolio == b.portfolio && a.code == b.code

-- every line that exists, once
abbrev pub lines : History → List Spot
lines (opened_with s n) = []
lines (asked h c a) =
    cond (done a) (
    let all : List Spot = touches h c ++ filter (λ b. not (any (same_spot b) (touches h c))) (lines h) in
    filter (λ b. line_exists (asked h c a) b.portfolio b.code) all
    ) (lines h)

abbrev pub codes : List Spot → List ℕ
codes [] = []
codes (b ∷ bs) = b.code ∷ codes bs

-- what a portfolio holds
abbrev pub holding : History → ℕ → Holding
holding h j = record {
  cash = cash h j;
  planned = planned h j;
  lines = codes (filter (λ b. nat_eq j b.portfolio) (lines h));
  orders = filter (λ o. nat_eq j o.portfolio) (orders h);
}

-- its first ratio, and the figures that a notice states
abbrev pub ratio_now : History → ℕ → ℤ
ratio_now h j = first_ratio (in_force h) (holding h j)

abbrev pub notice_now : History → ℕ → Notice
notice_now h j =
    let f : Figures = figures_of (in_force h) (holding h j) in
    record { value = f.value; initial = f.initial; minimum = f.minimum }

-- a notice is taken, or put back where the portfolio is open
abbrev pub sets_notice : History → Call → ℕ → Option Notice → Option Notice
sets_notice h (take_notice p) j owed = cond (j == p) None owed
sets_notice h (put_back w) j owed = cond (j == w.portfolio && is_open h j) (Some w.notice) owed
sets_notice h (open_portfolio p) j owed = owed
sets_notice h (pay_in p c x) j owed = owed
sets_notice h (pay_out p c x) j owed = owed
sets_notice h (deliver_in p c q) j owed = owed
sets_notice h (deliver_out p c q) j owed = owed
sets_notice h (place o) j owed = owed
sets_notice h (fill n q x) j owed = owed
sets_notice h (cancel n) j owed = owed
sets_notice h (figures p) j owed = owed
sets_notice h (record_paper w t) j owed = owed
sets_notice h (put_in_force t) j owed = owed

-- from nought or more to below
abbrev pub fell : ℤ → ℤ → Bool
fell before after = not (below before (pos 0)) && below after (pos 0)

-- a notice already owed stands; otherwise a new one, if the ratio fell
abbrev pub or_owed : Option Notice → Bool → Notice → Option Notice
or_owed (Some n) falls new = Some n
or_owed None true new = Some new
or_owed None false new = None

-- owed from the moment an accepted call takes the first ratio from nought or more to below; one already owed stays
abbrev pub notice : History → ℕ → Option Notice
notice (opened_with s n) j = None
notice (asked h c a) j =
    cond (done a) (
    or_owed (sets_notice h c j (notice h j)) (is_open h j && fell (ratio_now h j) (ratio_now (asked h c a) j)) (notice_now (asked h c a) j)
    ) (notice h j)

abbrev pub enters : Call → List Entry → List Entry
enters (record_paper w t) js = js ++ record { serial = length js + 1; portfolio = w.portfolio; notice = w.notice; time = t } ∷ []
enters (open_portfolio p) js = js
enters (pay_in p c x) js = js
enters (pay_out p c x) js = js
enters (deliver_in p c q) js = js
enters (deliver_out p c q) js = js
enters (place o) js = js
enters (fill n q x) js = js
enters (cancel n) js = js
enters (figures p) js = js
enters (take_notice p) js = js
enters (put_back w) js = js
enters (put_in_force t) js = js

abbrev pub journal : History → List Entry
journal (opened_with s n) = []
journal (asked h c a) = cond (done a) (enters c (journal h)) (journal h)
