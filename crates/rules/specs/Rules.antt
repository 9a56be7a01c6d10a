-- The answer to each call: the first check that fails gives its number.
use Rattle.std.specs.Prelude.{◌≡◌, ℕ, Bool, true, false, cond, not, ◌&&◌, ◌||◌, List, [], ◌∷◌, length, ℤ, pos, is_some, Some, None, Option, ◌==◌, nat_le, nat_lt}
use Rattle.book.specs.Ranges.{no_portfolio, no_currency, no_code, no_number, no_quantity, no_amount}
use Rattle.margin.specs.declared.Instrument.{Instrument}
use Rattle.margin.specs.declared.Order.{Order}
use Rattle.margin.specs.Numbers.{any, below}
use Rattle.margin.specs.Sheets.{Sheet, currency_at, instrument_at}
use Rattle.margin.specs.Orders.{sells, worse_than_own}
use Rattle.margin.specs.Fillings.{worst}
use Rattle.margin.specs.Figures.{figures_of}
use Rattle.margin.specs.Limits.{cover, closed_to_short, over_gross, worsens}
use Rattle.rules.specs.Calls.{Notice, Call, Answer, open_portfolio, pay_in, pay_out, deliver_in, deliver_out, place, cancel, figures, take_notice, record_paper, put_back, put_in_force, accepted, told, given, refused, fill}
use Rattle.rules.specs.Histories.{notice, History, opened_with, asked, places, in_force, portfolios, is_open, standing, owner, line_exists, holding, journal, lines, orders}

pub record Check : Type 0 where
  pub fails : Bool
  pub number : ℕ

abbrev pub check : Bool → ℕ → Check
check b n = record { fails = b; number = n }

abbrev pub first_of : List Check → Answer → Answer
first_of [] a = a
first_of (c ∷ cs) a = cond c.fails (refused c.number) (first_of cs a)

-- ---- conditions, each on what the history says; `then` is the history as it would be if the call were accepted
abbrev pub then : History → Call → History
then h c = asked h c accepted

-- 13: the sheet does not fit the register: other currencies, or a code with a line missing or in another currency
abbrev pub other_currencies : Sheet → Sheet → Bool
other_currencies s t = any (λ c. not (is_some (currency_at t c.code))) s.currencies || any (λ c. not (is_some (currency_at s c.code))) t.currencies

abbrev pub currency_changed : Option Instrument → Option Instrument → Bool
currency_changed None j = true
currency_changed (Some i) None = true
currency_changed (Some i) (Some j) = not (i.currency == j.currency)

abbrev pub does_not_fit : History → Sheet → Bool
does_not_fit h t =
    other_currencies (in_force h) t
    || any (λ b. currency_changed (instrument_at (in_force h) b.code) (instrument_at t b.code)) (lines h)

-- 14 and 15
abbrev pub no_such_portfolio : History → ℕ → Bool
no_such_portfolio h p = not (is_open h p)

abbrev pub exists_already : History → ℕ → Bool
exists_already h p = is_open h p

-- 16
abbrev pub currency_missing : History → ℕ → Bool
currency_missing h c = not (is_some (currency_at (in_force h) c))

abbrev pub instrument_missing : History → ℕ → Bool
instrument_missing h c = not (is_some (instrument_at (in_force h) c))

-- 17 and 18
abbrev pub number_stands : History → ℕ → Bool
number_stands h n = is_some (standing h n)

abbrev pub number_stands_not : History → ℕ → Bool
number_stands_not h n = not (is_some (standing h n))

-- 19: more than the order is open for
abbrev pub beyond_open : Option Order → ℕ → Bool
beyond_open None q = false
beyond_open (Some o) q = nat_lt o.left q

-- 20: above a buy's own price, or below a sell's
abbrev pub beyond_price : Option Order → ℕ → Bool
beyond_price None x = false
beyond_price (Some o) x = worse_than_own o x

-- 21: a sell where short sale is closed leaves the cover negative, itself among the sells; a delivery out exceeds the cover
abbrev pub sells_uncovered : History → Order → Bool
sells_uncovered h o = sells o.side && closed_to_short (in_force h) o.code && below (cover (holding (then h (place o)) o.portfolio) o.code) (pos 0)

abbrev pub beyond_cover : History → ℕ → ℕ → ℕ → Bool
beyond_cover h p c q = below (cover (holding h p) c) (pos q)

-- 22: no free place; a line needs one only where it is new
abbrev pub no_place_for_portfolio : History → Bool
no_place_for_portfolio h = nat_le (places h).portfolios (length (portfolios h))

abbrev pub no_place_for_line : History → ℕ → ℕ → Bool
no_place_for_line h p c = not (line_exists h p c) && nat_le (places h).lines (length (lines h))

abbrev pub no_place_for_order : History → Bool
no_place_for_order h = nat_le (places h).orders (length (orders h))

-- 23: the gross of a portfolio over its limit, in some currency of the sheet in force
abbrev pub gross_over : History → ℕ → Bool
gross_over h p = over_gross (in_force h) (holding h p)

-- 24: the worst case afterwards below nought, and below the one before
abbrev pub worst_now : History → ℕ → ℤ
worst_now h p = worst (in_force h) (holding h p)

abbrev pub margin_worsens : History → Call → ℕ → Bool
margin_worsens h c p = worsens (in_force h) (holding h p) (holding (then h c) p)

-- 25 and 26
abbrev pub no_notice_owed : History → ℕ → Bool
no_notice_owed h p = not (is_some (notice h p))

abbrev pub journal_full : History → Bool
journal_full h = nat_le (places h).journal (length (journal h))

-- ---- the checks of each call, in order
abbrev pub checks : History → Call → List Check
checks h (open_portfolio p) = check (no_portfolio p) 4 ∷ check (exists_already h p) 15 ∷ check (no_place_for_portfolio h) 22 ∷ []
checks h (pay_in p c x) =
    check (no_portfolio p || no_currency c || no_amount x) 4
    ∷ check (no_such_portfolio h p) 14
    ∷ check (currency_missing h c) 16
    ∷ check (gross_over (then h (pay_in p c x)) p) 23
    ∷ []
checks h (pay_out p c x) =
    check (no_portfolio p || no_currency c || no_amount x) 4
    ∷ check (no_such_portfolio h p) 14
    ∷ check (currency_missing h c) 16
    ∷ check (gross_over (then h (pay_out p c x)) p) 23
    ∷ check (margin_worsens h (pay_out p c x) p) 24
    ∷ []
checks h (deliver_in p c q) =
    check (no_portfolio p || no_code c || no_quantity q) 4
    ∷ check (no_such_portfolio h p) 14
    ∷ check (instrument_missing h c) 16
    ∷ check (no_place_for_line h p c) 22
    ∷ check (gross_over (then h (deliver_in p c q)) p) 23
    ∷ []
checks h (deliver_out p c q) =
    check (no_portfolio p || no_code c || no_quantity q) 4
    ∷ check (no_such_portfolio h p) 14
    ∷ check (instrument_missing h c) 16
    ∷ check (beyond_cover h p c q) 21
    ∷ check (margin_worsens h (deliver_out p c q) p) 24
    ∷ []
checks h (place o) =
    check (no_portfolio o.portfolio || no_number o.number || no_code o.code || no_quantity o.left || no_quantity o.price) 4
    ∷ check (no_such_portfolio h o.portfolio) 14
    ∷ check (instrument_missing h o.code) 16
    ∷ check (number_stands h o.number) 17
    ∷ check (sells_uncovered h o) 21
    ∷ check (no_place_for_order h || no_place_for_line h o.portfolio o.code) 22
    ∷ check (gross_over (then h (place o)) o.portfolio) 23
    ∷ check (margin_worsens h (place o) o.portfolio) 24
    ∷ []
checks h (fill n q x) =
    check (no_number n || no_quantity q || no_quantity x) 4
    ∷ check (number_stands_not h n) 18
    ∷ check (beyond_open (standing h n) q) 19
    ∷ check (beyond_price (standing h n) x) 20
    ∷ check (gross_over (then h (fill n q x)) (owner (standing h n))) 23
    ∷ []
checks h (cancel n) = check (no_number n) 4 ∷ check (number_stands_not h n) 18 ∷ []
checks h (figures p) = check (no_portfolio p) 4 ∷ check (no_such_portfolio h p) 14 ∷ []
checks h (take_notice p) = check (no_portfolio p) 4 ∷ check (no_such_portfolio h p) 14 ∷ check (no_notice_owed h p) 25 ∷ []
checks h (record_paper w t) = check (no_such_portfolio h w.portfolio) 14 ∷ check (journal_full h) 26 ∷ []
checks h (put_back w) = []
checks h (put_in_force t) = check (does_not_fit h t) 13 ∷ check (any (gross_over (then h (put_in_force t))) (portfolios h)) 23 ∷ []

-- ---- what is answered where none fails: figures, a paper, or that it is done
abbrev pub paper_of : ℕ → Option Notice → Answer
paper_of p None = accepted
paper_of p (Some n) = given record { portfolio = p; notice = n }

abbrev pub reply : History → Call → Answer
reply h (figures p) = told (figures_of (in_force h) (holding h p))
reply h (take_notice p) = paper_of p (notice h p)
reply h (open_portfolio p) = accepted
reply h (pay_in p c x) = accepted
reply h (pay_out p c x) = accepted
reply h (deliver_in p c q) = accepted
reply h (deliver_out p c q) = accepted
reply h (place o) = accepted
reply h (fill n q x) = accepted
reply h (cancel n) = accepted
reply h (record_paper w t) = accepted
reply h (put_back w) = accepted
reply h (put_in_force t) = accepted

-- the answer to a call after a history
abbrev pub ruled : History → Call → Answer
ruled h c = first_of (checks h c) (reply h c)

-- each answer was the one that the rules give
abbrev pub Ruled : History → Type 0
Ruled (opened_with s n) = Unit {0}
Ruled (asked h c a) = Ruled h × (a ≡ ruled h c)
