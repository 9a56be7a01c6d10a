-- Portfolios: each is opened once, and one that is not open has nothing.
use Rattle.std.proofs.Common.{◌≡◌, ℕ, true, false, eqb, ℤ, pos, ◌+ℤ◌, is_some, None, refl, ap, ◌∙◌}
use Rattle.std.specs.List.{AllByRecursion}
use Rattle.std.proofs.ByRecursion.{all-has, All-weaker}
use Rattle.std.proofs.lemmas.Bool.{and_right, cond_both, cond-false, and_left, both_ways, eqb-true, or_parts, not-false}
use Rattle.margin.specs.Sheets.{Apart}
use Rattle.rules.specs.Calls.{figures, Call, accepted, told, given, refused, open_portfolio, pay_in, pay_out, deliver_in, deliver_out, place, fill, cancel, take_notice, record_paper, put_back, put_in_force}
use Rattle.rules.specs.Histories.{sets_notice, notice, portfolios, History, opened_with, asked, orders, is_open, cash, planned, standing, pays, delivers, owner}
use Rattle.rules.specs.Rules.{then, Ruled}
use Rattle.rules.specs.Laws.{PortfoliosSound, concerns, PassesEarlier}
use Rattle.margin.proofs.Lists.{none_any, by_test}
use Rattle.rules.proofs.Orders.{named, mine, first_some, some_is}
use Rattle.rules.proofs.Moments.{at_moment, passed}
use Rattle.rules.proofs.Standing.{Good, orders_good}
use Rattle.rules.proofs.Untouched.{owed_left, pays_nought, delivers_nought}

apart_from_open : (h : History) (j p : ℕ) → is_open h j ≡ false → is_open h p ≡ true → eqb j p ≡ false
apart_from_open h j p c o = by_test (eqb j p) (λ e. absurd (both_ways (is_open h j) c (ap (is_open h) (eqb-true j p e) ∙ o))) (λ f. f)

owner_open : (h : History) (n : ℕ) → AllByRecursion (Good h) (orders h) → is_some (standing h n) ≡ true → is_open h (owner (standing h n)) ≡ true
owner_open h n a s =
    let p = some_is (standing h n) s in
    let g = all-has (Good h) (orders h) p.0 a (first_some (named n) (orders h) p.0 p.1).0 in
    ap (λ o. is_open h (owner o)) p.1 ∙ g.0

abbrev pub Nothing : History → ℕ → Type 0
Nothing h j = ((k : ℕ) → cash h j k ≡ pos 0) × ((k : ℕ) → planned h j k ≡ pos 0)

still : (z d : ℤ) → z ≡ pos 0 → d ≡ pos 0 → z +ℤ d ≡ pos 0
still z d p q = rw (p, q)

abbrev Idle : History → Call → ℕ → Type 0
Idle h c j = (k : ℕ) → (pays h c j k ≡ pos 0) × (delivers h c j k ≡ pos 0)

unconcerned : (h : History) (c : Call) (j : ℕ) → concerns h c j ≡ false → Idle h c j
unconcerned h c j e k = (pays_nought h c j k e, delivers_nought h c j k e)

pub idle : (h : History) (c : Call) (j : ℕ) → PassesEarlier h c → AllByRecursion (Good h) (orders h) → is_open h j ≡ false → Idle h c j
idle h (open_portfolio p) j P a o k = (refl, refl)
idle h (pay_in p c x) j P a o k = unconcerned h (pay_in p c x) j (apart_from_open h j p o (not-false _ P.1.0)) k
idle h (pay_out p c x) j P a o k = unconcerned h (pay_out p c x) j (apart_from_open h j p o (not-false _ P.1.0)) k
idle h (deliver_in p c q) j P a o k = unconcerned h (deliver_in p c q) j (apart_from_open h j p o (not-false _ P.1.0)) k
idle h (deliver_out p c q) j P a o k = unconcerned h (deliver_out p c q) j (apart_from_open h j p o (not-false _ P.1.0)) k
idle h (place r) j P a o k = (refl, refl)
idle h (fill n q x) j P a o k = unconcerned h (fill n q x) j (apart_from_open h j _ o (owner_open h n a (not-false _ P.1.0))) k
idle h (cancel n) j P a o k = (refl, refl)
idle h (figures p) j P a o k = (refl, refl)
idle h (take_notice p) j P a o k = (refl, refl)
idle h (record_paper w t) j P a o k = (refl, refl)
idle h (put_back w) j P a o k = (refl, refl)
idle h (put_in_force t) j P a o k = (refl, refl)

-- what was not open after was not before
was_closed : (h : History) (c : Call) (j : ℕ) → is_open (then h c) j ≡ false → is_open h j ≡ false
was_closed h (open_portfolio p) j o = (or_parts (eqb j p) (is_open h j) o).1
was_closed h (pay_in p c x) j o = o
was_closed h (pay_out p c x) j o = o
was_closed h (deliver_in p c q) j o = o
was_closed h (deliver_out p c q) j o = o
was_closed h (place r) j o = o
was_closed h (fill n q x) j o = o
was_closed h (cancel n) j o = o
was_closed h (figures p) j o = o
was_closed h (take_notice p) j o = o
was_closed h (record_paper w t) j o = o
was_closed h (put_back w) j o = o
was_closed h (put_in_force t) j o = o

empty_step : (h : History) (c : Call) (j : ℕ) → PassesEarlier h c → AllByRecursion (Good h) (orders h) → is_open h j ≡ false → Nothing h j → Nothing (then h c) j
empty_step h c j P a o p = let i = idle h c j P a o in (λ k. still _ _ (p.0 k) (i k).0, λ k. still _ _ (p.1 k) (i k).1)

pub empty : (h : History) (j : ℕ) → Ruled h → is_open h j ≡ false → Nothing h j
empty (opened_with s n) j R o = (λ k. refl, λ k. refl)
empty (asked h c (refused n)) j R o = empty h j R.0 o
empty (asked h c accepted) j R o = let o' = was_closed h c j o in empty_step h c j (passed h c accepted R refl) (orders_good h R.0) o' (empty h j R.0 o')
empty (asked h c (told f)) j R o = let o' = was_closed h c j o in empty_step h c j (passed h c (told f) R refl) (orders_good h R.0) o' (empty h j R.0 o')
empty (asked h c (given w)) j R o = let o' = was_closed h c j o in empty_step h c j (passed h c (given w) R refl) (orders_good h R.0) o' (empty h j R.0 o')

pub no_orders : (h : History) (j : ℕ) → Ruled h → is_open h j ≡ false → AllByRecursion (λ o. mine j o ≡ false) (orders h)
no_orders h j R o = All-weaker (Good h) (λ r. mine j r ≡ false) (λ r g. apart_from_open h j r.portfolio o g.0) (orders h) (orders_good h R)

-- ---- nor a notice
sets_none : (h : History) (c : Call) (j : ℕ) → is_open h j ≡ false → sets_notice h c j None ≡ None
sets_none h (open_portfolio p) j o = refl
sets_none h (pay_in p c x) j o = refl
sets_none h (pay_out p c x) j o = refl
sets_none h (deliver_in p c q) j o = refl
sets_none h (deliver_out p c q) j o = refl
sets_none h (place r) j o = refl
sets_none h (fill n q x) j o = refl
sets_none h (cancel n) j o = refl
sets_none h (figures p) j o = refl
sets_none h (take_notice p) j o = cond_both (eqb j p) None None (λ w. w ≡ None) (λ _. refl) (λ _. refl)
sets_none h (record_paper w t) j o = refl
sets_none h (put_back w) j o = cond-false _ _ _ (and_right (eqb j w.portfolio) (is_open h j) o)
sets_none h (put_in_force t) j o = refl

no_notice_step : (h : History) (c : Call) (j : ℕ) → is_open h j ≡ false → notice h j ≡ None → notice (then h c) j ≡ None
no_notice_step h c j o n = owed_left _ _ _ (and_left _ _ o) ∙ ap (sets_notice h c j) n ∙ sets_none h c j o

pub no_notice : (h : History) (j : ℕ) → is_open h j ≡ false → notice h j ≡ None
no_notice (opened_with s n) j o = refl
no_notice (asked h c (refused n)) j o = no_notice h j o
no_notice (asked h c accepted) j o = let o' = was_closed h c j o in no_notice_step h c j o' (no_notice h j o')
no_notice (asked h c (told f)) j o = let o' = was_closed h c j o in no_notice_step h c j o' (no_notice h j o')
no_notice (asked h c (given w)) j o = let o' = was_closed h c j o in no_notice_step h c j o' (no_notice h j o')

-- ---- each once
once_step : (h : History) (c : Call) → PassesEarlier h c → Apart (λ p. p) (portfolios h) → Apart (λ p. p) (portfolios (then h c))
once_step h (open_portfolio p) P a = (none_any (eqb p) (portfolios h) P.1.0, a)
once_step h (pay_in p c x) P a = a
once_step h (pay_out p c x) P a = a
once_step h (deliver_in p c q) P a = a
once_step h (deliver_out p c q) P a = a
once_step h (place r) P a = a
once_step h (fill n q x) P a = a
once_step h (cancel n) P a = a
once_step h (figures p) P a = a
once_step h (take_notice p) P a = a
once_step h (record_paper w t) P a = a
once_step h (put_back w) P a = a
once_step h (put_in_force t) P a = a

pub opened_once : (h : History) → Ruled h → Apart (λ p. p) (portfolios h)
opened_once (opened_with s n) R = tt
opened_once (asked h c (refused n)) R = opened_once h R.0
opened_once (asked h c accepted) R = once_step h c (passed h c accepted R refl) (opened_once h R.0)
opened_once (asked h c (told f)) R = once_step h c (passed h c (told f) R refl) (opened_once h R.0)
opened_once (asked h c (given w)) R = once_step h c (passed h c (given w) R refl) (opened_once h R.0)

pub portfolios_sound : (h : History) → Ruled h → PortfoliosSound h
portfolios_sound h R q m =
    let R' = at_moment q m R in
    record {
      each_once = opened_once q R';
      unopened_no_cash = λ j o c. (empty q j R' o).0 c;
      unopened_no_position = λ j o code. (empty q j R' o).1 code;
      unopened_no_order = λ j o. no_orders q j R' o;
      unopened_no_notice = λ j o. no_notice q j o;
    }
