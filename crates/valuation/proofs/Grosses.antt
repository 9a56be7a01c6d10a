-- The gross of a line and of a currency.
use Rattle.std.proofs.Common.{◌≡◌, ℕ, ◌+◌, ◌*◌, max, Bool, true, false, cond, eqb, List, [], ◌∷◌, map, ℤ, pos, ◌+ℤ◌, nat_abs, Some, None, filter, Option, sym, refl, ap, ◌∙◌, ap₂, arith}
use Rattle.std.specs.List.{fold}
use Rattle.keyed.specs.Rows.{Rising, lookup}
use Rattle.margin.specs.declared.Instrument.{Instrument}
use Rattle.margin.specs.declared.Order.{Order}
use Rattle.margin.specs.Keys.{instrument_code}
use Rattle.margin.specs.Numbers.{total, count}
use Rattle.margin.specs.Orders.{on}
use Rattle.margin.specs.Sheets.{Apart}
use Rattle.margin.specs.Holdings.{held}
use Rattle.margin.specs.Limits.{highest, gross}
use Rattle.margin.proofs.Sums.{sum_same}
use Rattle.valuation.specs.declared.line.Line.{Line}
use Rattle.valuation.specs.Keys.{line_code}
use Rattle.valuation.specs.Values.{of, value_in}
use Rattle.valuation.specs.Holdings.{sheet_of, holding_of, planned_in}
use Rattle.valuation.specs.Grosses.{gross_of, count_of, gross_in}
use Rattle.valuation.proofs.Joins.{lines_join, rising_apart}
use Rattle.valuation.proofs.Parts.{count_alike}

-- ---- the highest price, kept one after another
fold_max : (a b : ℕ) (os : List Order) → fold (λ x y. max x y) (max b a) (map (λ o. o.price) os) ≡ max b (fold (λ x y. max x y) a (map (λ o. o.price) os))
fold_max a b [] = refl
fold_max a b (o ∷ os) = let e : max (max b a) o.price ≡ max b (max a o.price) = omega arith in ap (λ n. fold (λ x y. max x y) n (map (λ o. o.price) os)) e ∙ fold_max (max a o.price) b os

pub highest_fold : (p : ℕ) (os : List Order) → fold (λ x y. max x y) p (map (λ o. o.price) os) ≡ highest p os
highest_fold p [] = refl
highest_fold p (o ∷ os) = let e : max p o.price ≡ max o.price p = omega arith in ap (λ n. fold (λ x y. max x y) n (map (λ o. o.price) os)) e ∙ fold_max p o.price os ∙ ap (max o.price) (highest_fold p os)

-- the same of those that pass a test, one after another
kept_by : (t : Order → Bool) (b : Bool) (p : ℕ) (o : Order) (os : List Order) → ((q : ℕ) → fold (λ a x. cond (t x) (max a x.price) a) q os ≡ fold (λ x y. max x y) q (map (λ o. o.price) (filter t os)))
    → fold (λ a x. cond (t x) (max a x.price) a) (cond b (max p o.price) p) os ≡ fold (λ x y. max x y) p (map (λ o. o.price) (cond b (o ∷ filter t os) (filter t os)))
kept_by t true p o os later = later (max p o.price)
kept_by t false p o os later = later p

pub kept_fold : (t : Order → Bool) (p : ℕ) (os : List Order) → fold (λ a x. cond (t x) (max a x.price) a) p os ≡ fold (λ x y. max x y) p (map (λ o. o.price) (filter t os))
kept_fold t p [] = refl
kept_fold t p (o ∷ os) = kept_by t (t o) p o os (λ q. kept_fold t q os)

-- the part of the orders has all the line's own
pub line_gross : (i : Instrument) (q : ℤ) (part os : List Order) (units high : ℕ) → filter (on i.code) part ≡ filter (on i.code) os →
    units ≡ nat_abs q + count (λ o. cond (on i.code o) o.left 0) part → high ≡ highest i.price (filter (on i.code) part) → units * high ≡ gross_of os i q
line_gross i q part os units high k u t =
    ap₂ ◌*◌ (u ∙ ap (λ n. nat_abs q + n) (count_alike (on i.code) (λ o. o.left) part os k)) (t ∙ ap (highest i.price) k)

-- ---- natural numbers as integers
pos_count : {X : Type 0} (f : X → ℕ) (xs : List X) → total (λ x. pos (f x)) xs ≡ pos (count f xs)
pos_count f [] = refl
pos_count f (x ∷ xs) = ap (λ z. pos (f x) +ℤ z) (pos_count f xs)

pos_cond : (b : Bool) (n : ℕ) → pos (cond b n 0) ≡ cond b (pos n) (pos 0)
pos_cond true n = refl
pos_cond false n = refl

pos_of : {X : Type 0} (t : X → Bool) (g : X → ℕ) (o : Option X) → pos (count_of (λ x. cond (t x) (g x) 0) o) ≡ of (λ x. cond (t x) (pos (g x)) (pos 0)) o
pos_of t g None = refl
pos_of t g (Some x) = pos_cond (t x) (g x)

lines_gross : (is : List Instrument) (ls : List Line) (os : List Order) (c : ℕ) → Apart line_code ls → Rising instrument_code is →
    pos (count (gross_in os is c) ls) ≡ pos (count (λ i. gross_of os i (planned_in ls i.code)) (held (sheet_of (λ _. []) [] is) (holding_of (λ _. pos 0) ls os) c))
lines_gross is ls os c a b =
    sym (pos_count (gross_in os is c) ls)
    ∙ sum_same (λ l. pos (gross_in os is c l)) (value_in (λ i q. pos (gross_of os i q)) is c) (λ l. pos_of (λ i. eqb c i.currency) (λ i. gross_of os i l.planned) (lookup instrument_code is l.code)) ls
    ∙ lines_join line_code (λ l. l.planned) instrument_code (λ i. i.currency) (λ i q. pos (gross_of os i q)) c ls is a (rising_apart instrument_code is b)
    ∙ pos_count (λ i. gross_of os i (planned_in ls i.code)) (held (sheet_of (λ _. []) [] is) (holding_of (λ _. pos 0) ls os) c)

pub gross_is : (is : List Instrument) (ls : List Line) (os : List Order) (c : ℕ) (z : ℤ) → Apart line_code ls → Rising instrument_code is →
    nat_abs z + count (gross_in os is c) ls ≡ gross (sheet_of (λ _. []) [] is) (holding_of (λ _. z) ls os) c
gross_is is ls os c z a b = let e = lines_gross is ls os c a b in ap (λ x. nat_abs z + nat_abs x) e
