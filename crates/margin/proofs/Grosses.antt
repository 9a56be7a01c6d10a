-- A holding that is no larger in any part has no greater gross.
use Rattle.std.proofs.Common.{◌≡◌, ℕ, ◌+◌, ◌≤◌, Bool, true, false, cond, ◌&&◌, eqb, ltb, List, [], ◌∷◌, pos, nat_abs, filter, ap, mul-le-mul, arith}
use Rattle.std.specs.List.{AllByRecursion}
use Rattle.std.proofs.ByRecursion.{All-weaker}
use Rattle.std.proofs.lemmas.Bool.{and_parts, and_from, ltb-false, le-ltb}
use Rattle.margin.specs.declared.Currency.{Currency}
use Rattle.margin.specs.declared.Instrument.{Instrument}
use Rattle.margin.specs.declared.Order.{Order}
use Rattle.margin.specs.Numbers.{any, count}
use Rattle.margin.specs.Sheets.{Sheet}
use Rattle.margin.specs.Orders.{on}
use Rattle.margin.specs.Holdings.{Holding, held}
use Rattle.margin.specs.Limits.{highest, gross, gross_of_line, over_gross, gross_limit}
use Rattle.margin.proofs.Lists.{by_test, kept_none, any_none, none_any}

-- ---- a sum over fewer, of no more each
pub count_mono : {X : Type 0} (f g : X → ℕ) (t u : X → Bool) (xs : List X) → ((x : X) → t x ≡ true → u x ≡ true) → ((x : X) → f x ≤ g x) → count f (filter t xs) ≤ count g (filter u xs)
count_mono f g t u [] s l = omega arith
count_mono f g t u (x ∷ xs) s l =
    let r = count_mono f g t u xs s l in
    let k = l x in
    by_test (t x)
    (λ y. let z = s x y in rw (y, z) (omega arith))
    (λ n. by_test (u x) (λ z. rw (n, z) (omega arith)) (λ z. rw (n, z) r))

pub highest_kept : (p : ℕ) (t : Order → Bool) (os : List Order) → highest p (filter t os) ≤ highest p os
highest_kept p t [] = omega arith
highest_kept p t (o ∷ os) = let r = highest_kept p t os in by_test (t o) (λ y. rw y (omega arith)) (λ n. rw n (omega arith))

abbrev pub open_on : ℕ → Order → ℕ
open_on k o = cond (on k o) o.left 0

-- no larger in any part
pub record Within (a b : Holding) : Type 0 where
  pub cash : (c : ℕ) → nat_abs (a.cash c) ≤ nat_abs (b.cash c)
  pub planned : (k : ℕ) → nat_abs (a.planned k) ≤ nat_abs (b.planned k)
  pub lines : (k : ℕ) → any (eqb k) a.lines ≡ true → any (eqb k) b.lines ≡ true
  pub open_left : (k : ℕ) → count (open_on k) a.orders ≤ count (open_on k) b.orders
  pub highest_of : (k p : ℕ) → highest p (filter (on k) a.orders) ≤ highest p (filter (on k) b.orders)

line_within : (s : Sheet) (a b : Holding) → Within a b → (i : Instrument) → gross_of_line s a i ≤ gross_of_line s b i
line_within s a b w i =
    let x = w.planned i.code in
    let y = w.open_left i.code in
    let z : nat_abs (a.planned i.code) + count (open_on i.code) a.orders ≤ nat_abs (b.planned i.code) + count (open_on i.code) b.orders = omega arith in
    mul-le-mul z (w.highest_of i.code i.price)

pub gross_within : (s : Sheet) (a b : Holding) → Within a b → (c : ℕ) → gross s a c ≤ gross s b c
gross_within s a b w c =
    let x = w.cash c in
    let y : count (gross_of_line s a) (held s a c) ≤ count (gross_of_line s b) (held s b c) =
    count_mono (gross_of_line s a) (gross_of_line s b) (λ i. eqb c i.currency && any (eqb i.code) a.lines) (λ i. eqb c i.currency && any (eqb i.code) b.lines) s.instruments
    (λ i e. let p = and_parts (eqb c i.currency) (any (eqb i.code) a.lines) e in and_from _ _ p.0 (w.lines i.code p.1)) (line_within s a b w)
    in
    omega arith

pub over_within : (s : Sheet) (a b : Holding) → Within a b → over_gross s b ≡ false → over_gross s a ≡ false
over_within s a b w e =
    any_none _ s.currencies (All-weaker (λ c. ltb gross_limit (gross s b c.code) ≡ false) (λ c. ltb gross_limit (gross s a c.code) ≡ false)
    (λ c f. let x = ltb-false _ _ f in let y = gross_within s a b w c.code in le-ltb _ _ (omega arith)) s.currencies (none_any _ s.currencies e))

-- ---- a portfolio with nothing
abbrev pub none_held : Holding
none_held = record { cash = λ c. pos 0; planned = λ k. pos 0; lines = []; orders = [] }

none_of : (s : Sheet) (c : ℕ) → held s none_held c ≡ []
none_of s c = kept_none _ s.instruments (all_no s.instruments)
  where
    all_no : (is : List Instrument) → AllByRecursion (λ i. (eqb c i.currency && false) ≡ false) is
    all_no [] = tt
    all_no (i ∷ is) = (by_test (eqb c i.currency) (λ y. rw y) (λ n. rw n), all_no is)

pub none_over : (s : Sheet) → over_gross s none_held ≡ false
none_over s = any_none _ s.currencies (all s.currencies)
  where
    all : (cs : List Currency) → AllByRecursion (λ c. ltb gross_limit (gross s none_held c.code) ≡ false) cs
    all [] = tt
    all (c ∷ cs) = (ap (λ l. ltb gross_limit (0 + count (gross_of_line s none_held) l)) (none_of s c.code), all cs)
