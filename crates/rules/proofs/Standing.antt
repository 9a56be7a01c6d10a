-- Standing orders: their numbers are distinct, and each is of an open portfolio, with something left.
use Rattle.std.proofs.Common.{◌≡◌, ◌≤◌, true, eqb, refl, arith}
use Rattle.std.specs.List.{AllByRecursion}
use Rattle.std.proofs.ByRecursion.{All-weaker, all_kept_by}
use Rattle.std.proofs.lemmas.Bool.{ltb-true, ltb-false, or_parts, or_right, not-false}
use Rattle.margin.specs.declared.Order.{Order}
use Rattle.margin.specs.Sheets.{Apart}
use Rattle.rules.specs.Calls.{Call, accepted, told, given, refused, open_portfolio, pay_in, pay_out, deliver_in, deliver_out, place, fill, cancel, figures, take_notice, record_paper, put_back, put_in_force}
use Rattle.rules.specs.Histories.{History, opened_with, asked, orders, is_open}
use Rattle.rules.specs.Rules.{then, Ruled}
use Rattle.rules.specs.Laws.{PassesEarlier}
use Rattle.rules.proofs.Orders.{num, named, others, first_none, less_all, less_apart, only_apart}
use Rattle.rules.proofs.Moments.{passed}

pub apart_step : (h : History) (c : Call) → PassesEarlier h c → Apart num (orders h) → Apart num (orders (then h c))
apart_step h (open_portfolio p) P a = a
apart_step h (pay_in p c x) P a = a
apart_step h (pay_out p c x) P a = a
apart_step h (deliver_in p c q) P a = a
apart_step h (deliver_out p c q) P a = a
apart_step h (place o) P a = (first_none (named o.number) (orders h) P.1.1.1.0, a)
apart_step h (fill n q x) P a = less_apart n q (orders h) a
apart_step h (cancel n) P a = only_apart num (others n) (orders h) a
apart_step h (figures p) P a = a
apart_step h (take_notice p) P a = a
apart_step h (record_paper w t) P a = a
apart_step h (put_back w) P a = a
apart_step h (put_in_force t) P a = a

pub numbers_apart : (h : History) → Ruled h → Apart num (orders h)
numbers_apart (opened_with s n) R = tt
numbers_apart (asked h c (refused n)) R = numbers_apart h R.0
numbers_apart (asked h c accepted) R = apart_step h c (passed h c accepted R refl) (numbers_apart h R.0)
numbers_apart (asked h c (told f)) R = apart_step h c (passed h c (told f) R refl) (numbers_apart h R.0)
numbers_apart (asked h c (given w)) R = apart_step h c (passed h c (given w) R refl) (numbers_apart h R.0)

-- ---- each is of an open portfolio, with something left
abbrev pub Good : History → Order → Type 0
Good h o = (is_open h o.portfolio ≡ true) × (1 ≤ o.left)

pub good_step : (h : History) (c : Call) → PassesEarlier h c → AllByRecursion (Good h) (orders h) → AllByRecursion (Good (then h c)) (orders (then h c))
good_step h (open_portfolio p) P a = All-weaker (Good h) (Good (then h (open_portfolio p))) (λ o g. (or_right (eqb o.portfolio p) (is_open h o.portfolio) g.0, g.1)) (orders h) a
good_step h (pay_in p c x) P a = a
good_step h (pay_out p c x) P a = a
good_step h (deliver_in p c q) P a = a
good_step h (deliver_out p c q) P a = a
good_step h (place o) P a =
    let ranges = (or_parts _ _ P.0).0 in
    let left = (or_parts _ _ (or_parts _ _ ranges).1).0 in
    ((not-false _ P.1.0, ltb-false o.left 1 left), a)
good_step h (fill n q x) P a = less_all n q (Good h) (orders h) (λ o g l. (g.0, (let k = ltb-true q o.left l in omega arith))) a
good_step h (cancel n) P a = all_kept_by (others n) (Good h) (orders h) a
good_step h (figures p) P a = a
good_step h (take_notice p) P a = a
good_step h (record_paper w t) P a = a
good_step h (put_back w) P a = a
good_step h (put_in_force t) P a = a

pub orders_good : (h : History) → Ruled h → AllByRecursion (Good h) (orders h)
orders_good (opened_with s n) R = tt
orders_good (asked h c (refused n)) R = orders_good h R.0
orders_good (asked h c accepted) R = good_step h c (passed h c accepted R refl) (orders_good h R.0)
orders_good (asked h c (told f)) R = good_step h c (passed h c (told f) R refl) (orders_good h R.0)
orders_good (asked h c (given w)) R = good_step h c (passed h c (given w) R refl) (orders_good h R.0)
