-- The code of every line is in the sheet in force, and keeps its currency.
use Rattle.std.proofs.Common.{◌≡◌, ℕ, Bool, true, false, not, ◌||◌, eqb, [], ◌∷◌, is_some, Some, None, Option, sym, refl, ap, ◌∙◌}
use Rattle.std.proofs.ByRecursion.{all-has}
use Rattle.std.proofs.lemmas.Bool.{not-false, eqb-true, or_parts, both_ways, eq-eqb, or_right}
use Rattle.margin.specs.declared.Instrument.{Instrument}
use Rattle.margin.specs.declared.Order.{Order}
use Rattle.margin.specs.Numbers.{any}
use Rattle.margin.specs.Sheets.{currency_at, Sheet, instrument_at}
use Rattle.rules.specs.Calls.{figures, Call, Answer, accepted, told, given, refused, open_portfolio, pay_in, pay_out, deliver_in, deliver_out, place, fill, cancel, take_notice, record_paper, put_back, put_in_force}
use Rattle.rules.specs.Histories.{History, opened_with, asked, orders, in_force, standing, lines, Spot, same_spot, spot_of, touches}
use Rattle.rules.specs.Rules.{then, Ruled, does_not_fit, currency_changed, other_currencies}
use Rattle.rules.specs.Laws.{currency_of, CurrenciesKept, LinesSound, PassesEarlier}
use Rattle.margin.proofs.Lists.{none_any, all_from_has, by_test, has_any}
use Rattle.rules.proofs.Orders.{some_is, first_some, named}
use Rattle.rules.proofs.Lines.{same_truth, lines_once, exists, exists_left, exact, at_spot, spot_is, same_itself}
use Rattle.rules.proofs.Moments.{at_moment, passed}
use Rattle.rules.proofs.Standing.{numbers_apart}

abbrev pub Listed : History → Type 0
Listed h = (b : Spot) → exists h b ≡ true → is_some (instrument_at (in_force h) b.code) ≡ true

alone : (x : Bool) → (x || false) ≡ true → x ≡ true
alone true e = refl
alone false e = e

-- the code of the one spot that a call touches
code_of : (b d : Spot) (f : ℕ → Bool) → any (same_spot b) (d ∷ []) ≡ true → f d.code ≡ true → f b.code ≡ true
code_of b d f e g = ap (λ x. f x.code) (spot_is b d (alone (same_spot b d) e)) ∙ g

standing_listed : (h : History) → Listed h → (n : ℕ) (s : Option Order) → standing h n ≡ s → (b : Spot) → any (same_spot b) (spot_of s) ≡ true → is_some (instrument_at (in_force h) b.code) ≡ true
standing_listed h L n None p b e = absurd (both_ways false refl e)
standing_listed h L n (Some o) p b e =
    let d : Spot = record { portfolio = o.portfolio; code = o.code } in
    code_of b d (λ k. is_some (instrument_at (in_force h) k)) e (L d (or_right _ _ (has_any (at_spot d) (orders h) o (first_some (named n) (orders h) o p).0 (same_itself d))))

touched_listed : (h : History) (c : Call) → PassesEarlier h c → Listed h → (b : Spot) → any (same_spot b) (touches h c) ≡ true → is_some (instrument_at (in_force h) b.code) ≡ true
touched_listed h (open_portfolio p) P L b e = absurd (both_ways false refl e)
touched_listed h (pay_in p c x) P L b e = absurd (both_ways false refl e)
touched_listed h (pay_out p c x) P L b e = absurd (both_ways false refl e)
touched_listed h (deliver_in p c q) P L b e = code_of b record { portfolio = p; code = c } (λ k. is_some (instrument_at (in_force h) k)) e (not-false _ P.1.1.0)
touched_listed h (deliver_out p c q) P L b e = code_of b record { portfolio = p; code = c } (λ k. is_some (instrument_at (in_force h) k)) e (not-false _ P.1.1.0)
touched_listed h (place o) P L b e = code_of b record { portfolio = o.portfolio; code = o.code } (λ k. is_some (instrument_at (in_force h) k)) e (not-false _ P.1.1.0)
touched_listed h (fill n q x) P L b e = standing_listed h L n (standing h n) refl b e
touched_listed h (cancel n) P L b e = standing_listed h L n (standing h n) refl b e
touched_listed h (figures p) P L b e = absurd (both_ways false refl e)
touched_listed h (take_notice p) P L b e = absurd (both_ways false refl e)
touched_listed h (record_paper w t) P L b e = absurd (both_ways false refl e)
touched_listed h (put_back w) P L b e = absurd (both_ways false refl e)
touched_listed h (put_in_force t) P L b e = absurd (both_ways false refl e)

-- in the sheet before the call
before : (h : History) (c : Call) → Ruled h → PassesEarlier h c → Listed h → (b : Spot) → exists (then h c) b ≡ true → is_some (instrument_at (in_force h) b.code) ≡ true
before h c R P L b e =
    by_test (any (same_spot b) (touches h c))
    (λ y. touched_listed h c P L b y)
    (λ n. L b (sym (exists_left h c b (numbers_apart h R) n) ∙ e))

unchanged_some : (i j : Option Instrument) → currency_changed i j ≡ false → is_some j ≡ true
unchanged_some None j e = absurd (both_ways true e refl)
unchanged_some (Some i) None e = absurd (both_ways true e refl)
unchanged_some (Some i) (Some j) e = refl

-- what fits has each line's code in its currency
fits : (h : History) (t : Sheet) → Ruled h → does_not_fit h t ≡ false → (b : Spot) → exists h b ≡ true → currency_changed (instrument_at (in_force h) b.code) (instrument_at t b.code) ≡ false
fits h t R f b e =
    all-has (λ d. currency_changed (instrument_at (in_force h) d.code) (instrument_at t d.code) ≡ false) (lines h) b
    (none_any (λ d. currency_changed (instrument_at (in_force h) d.code) (instrument_at t d.code)) (lines h) (or_parts (other_currencies (in_force h) t) _ f).1) ((exact h R b).1 e)

pub listed_step : (h : History) (c : Call) → Ruled h → PassesEarlier h c → Listed h → Listed (then h c)
listed_step h (open_portfolio p) R P L b e = before h (open_portfolio p) R P L b e
listed_step h (pay_in p c x) R P L b e = before h (pay_in p c x) R P L b e
listed_step h (pay_out p c x) R P L b e = before h (pay_out p c x) R P L b e
listed_step h (deliver_in p c q) R P L b e = before h (deliver_in p c q) R P L b e
listed_step h (deliver_out p c q) R P L b e = before h (deliver_out p c q) R P L b e
listed_step h (place o) R P L b e = before h (place o) R P L b e
listed_step h (fill n q x) R P L b e = before h (fill n q x) R P L b e
listed_step h (cancel n) R P L b e = before h (cancel n) R P L b e
listed_step h (figures p) R P L b e = before h (figures p) R P L b e
listed_step h (take_notice p) R P L b e = before h (take_notice p) R P L b e
listed_step h (record_paper w t) R P L b e = before h (record_paper w t) R P L b e
listed_step h (put_back w) R P L b e = before h (put_back w) R P L b e
listed_step h (put_in_force t) R P L b e =
    unchanged_some (instrument_at (in_force h) b.code) (instrument_at t b.code) (fits h t R P.0 b (sym (exists_left h (put_in_force t) b (numbers_apart h R) refl) ∙ e))

-- the code of every line that exists is in the sheet in force
pub listed : (h : History) → Ruled h → Listed h
listed (opened_with s n) R b e = absurd (both_ways false refl e)
listed (asked h c (refused n)) R b e = listed h R.0 b e
listed (asked h c accepted) R b e = listed_step h c R.0 (passed h c accepted R refl) (listed h R.0) b e
listed (asked h c (told f)) R b e = listed_step h c R.0 (passed h c (told f) R refl) (listed h R.0) b e
listed (asked h c (given w)) R b e = listed_step h c R.0 (passed h c (given w) R refl) (listed h R.0) b e

-- ---- its currency: no call changes it while the line exists
unchanged_itself : (i : Option Instrument) → is_some i ≡ true → currency_changed i i ≡ false
unchanged_itself None e = absurd (both_ways false refl e)
unchanged_itself (Some i) e = ap not (eq-eqb i.currency i.currency refl)

abbrev pub Still : History → History → Spot → Type 0
Still p q b = currency_changed (instrument_at (in_force p) b.code) (instrument_at (in_force q) b.code) ≡ false

still_step : (h : History) (c : Call) → Ruled h → PassesEarlier h c → (b : Spot) → exists h b ≡ true → Still h (then h c) b
still_step h (open_portfolio p) R P b e = unchanged_itself _ (listed h R b e)
still_step h (pay_in p c x) R P b e = unchanged_itself _ (listed h R b e)
still_step h (pay_out p c x) R P b e = unchanged_itself _ (listed h R b e)
still_step h (deliver_in p c q) R P b e = unchanged_itself _ (listed h R b e)
still_step h (deliver_out p c q) R P b e = unchanged_itself _ (listed h R b e)
still_step h (place o) R P b e = unchanged_itself _ (listed h R b e)
still_step h (fill n q x) R P b e = unchanged_itself _ (listed h R b e)
still_step h (cancel n) R P b e = unchanged_itself _ (listed h R b e)
still_step h (figures p) R P b e = unchanged_itself _ (listed h R b e)
still_step h (take_notice p) R P b e = unchanged_itself _ (listed h R b e)
still_step h (record_paper w t) R P b e = unchanged_itself _ (listed h R b e)
still_step h (put_back w) R P b e = unchanged_itself _ (listed h R b e)
still_step h (put_in_force t) R P b e = fits h t R P.0 b e

pub currency_still : (h : History) (c : Call) (a : Answer) → Ruled (asked h c a) → (b : Spot) → exists h b ≡ true → Still h (asked h c a) b
currency_still h c (refused n) R b e = unchanged_itself _ (listed h R.0 b e)
currency_still h c accepted R b e = still_step h c R.0 (passed h c accepted R refl) b e
currency_still h c (told f) R b e = still_step h c R.0 (passed h c (told f) R refl) b e
currency_still h c (given w) R b e = still_step h c R.0 (passed h c (given w) R refl) b e

-- ---- the register's currencies
-- every currency of s is one of t
abbrev Among : Sheet → Sheet → Type 0
Among s t = any (λ c. not (is_some (currency_at t c.code))) s.currencies ≡ false

among : (s t : Sheet) → Among s t → (c : ℕ) → is_some (currency_at s c) ≡ true → is_some (currency_at t c) ≡ true
among s t a c e =
    let (x, f) = some_is (currency_at s c) e in
    let (m, k) = first_some (λ y. eqb c y.code) s.currencies x f in
    let is : is_some (currency_at t x.code) ≡ true = not-false _ (all-has (λ y. not (is_some (currency_at t y.code)) ≡ false) s.currencies x (none_any _ s.currencies a) m) in
    ap (λ n. is_some (currency_at t n)) (eqb-true c x.code k) ∙ is

fitting : (s t : Sheet) → other_currencies s t ≡ false → (c : ℕ) → is_some (currency_at t c) ≡ is_some (currency_at s c)
fitting s t e c = let (a, b) = or_parts _ _ e in same_truth _ _ (among t s b c) (among s t a c)

currencies_step : (h : History) (c : Call) → PassesEarlier h c → (k : ℕ) → is_some (currency_at (in_force (then h c)) k) ≡ is_some (currency_at (in_force h) k)
currencies_step h (put_in_force t) P k = fitting (in_force h) t (or_parts (other_currencies (in_force h) t) _ P.0).0 k
currencies_step h (open_portfolio p) P k = refl
currencies_step h (pay_in p c x) P k = refl
currencies_step h (pay_out p c x) P k = refl
currencies_step h (deliver_in p c q) P k = refl
currencies_step h (deliver_out p c q) P k = refl
currencies_step h (place o) P k = refl
currencies_step h (fill n q x) P k = refl
currencies_step h (cancel n) P k = refl
currencies_step h (figures p) P k = refl
currencies_step h (take_notice p) P k = refl
currencies_step h (record_paper w t) P k = refl
currencies_step h (put_back w) P k = refl

currencies_still : (h : History) (c : Call) (a : Answer) → Ruled (asked h c a) → (k : ℕ) → is_some (currency_at (in_force (asked h c a)) k) ≡ is_some (currency_at (in_force h) k)
currencies_still h c (refused n) R k = refl
currencies_still h c accepted R k = currencies_step h c (passed h c accepted R refl) k
currencies_still h c (told f) R k = currencies_step h c (passed h c (told f) R refl) k
currencies_still h c (given w) R k = currencies_step h c (passed h c (given w) R refl) k

same_currency : (i j : Option Instrument) → currency_changed i j ≡ false → currency_of j ≡ currency_of i
same_currency None j e = absurd (both_ways true e refl)
same_currency (Some i) None e = absurd (both_ways true e refl)
same_currency (Some i) (Some j) e = ap Some (sym (eqb-true _ _ (not-false _ e)))

pub currencies_kept : (h : History) → Ruled h → CurrenciesKept h
currencies_kept h R q c a m =
    let R' = at_moment (asked q c a) m R in
    record {
      of_the_register = currencies_still q c a R';
      of_lines = all_from_has _ (lines q) (λ b i. same_currency _ _ (currency_still q c a R' b ((exact q R'.0 b).0 i)));
    }

pub lines_sound : (h : History) → Ruled h → LinesSound h
lines_sound h R q m =
    let R' = at_moment q m R in
    record { exact = exact q R'; once = lines_once q; in_the_sheet = all_from_has _ (lines q) (λ b i. listed q R' b ((exact q R' b).0 i)) }
