-- The values in ten-thousandths are the rules'.
use Rattle.std.proofs.Common.{◌≡◌, ℕ, ◌+◌, ◌*◌, Bool, true, false, cond, List, [], ◌∷◌, ℤ, pos, ◌+ℤ◌, ◌-ℤ◌, ◌*ℤ◌, neg_ℤ, Some, None, filter, sym, refl, ap, ◌∙◌, ap₂, mul_comm, arith}
use lib.IntN.{+ℤ_idr}
use Rattle.std.specs.Int.{int_min}
use Rattle.std.proofs.lemmas.Int.{ints, clamps}
use Rattle.margin.specs.declared.Instrument.{Instrument}
use Rattle.margin.specs.declared.Order.{Order}
use Rattle.margin.specs.declared.Piece.{Piece}
use Rattle.margin.specs.declared.Side.{Side}
use Rattle.margin.specs.declared.Side.TheVariants.{Buy, Sell}
use Rattle.margin.specs.Numbers.{down, least, total}
use Rattle.margin.specs.Orders.{on, signed, counted_price}
use Rattle.margin.specs.Sheets.{off_list}
use Rattle.margin.specs.Holdings.{worth, pieces_of}
use Rattle.margin.specs.Fillings.{drag, low}
use Rattle.margin.proofs.Integers.{mul_sum, mul_mul, mul_neg}
use Rattle.margin.proofs.Sums.{least_same}
use Rattle.valuation.specs.Raw.{unit_loss, loss, lost, raw, nought, with_nought, lower, lowest, floored}
use Rattle.valuation.specs.Values.{any_sheet, one_line}
use Rattle.valuation.proofs.Parts.{total_alike}
use Rattle.valuation.proofs.Lowests.{lower_start, floored_least}

min_loss : (s : Side) (k m : ℕ) → int_min (pos 0) (signed s (pos k -ℤ pos m)) ≡ neg_ℤ (pos (unit_loss s k m))
min_loss Buy k m = omega (arith, ints, clamps)
min_loss Sell k m = omega (arith, ints, clamps)

drag_is : (i : Instrument) (p : Piece) (o : Order) → drag i p o ≡ neg_ℤ (pos (loss i.price p.weight o))
drag_is i p o =
    ap (λ z. pos o.left *ℤ z) (min_loss o.side (i.price * p.weight) (10000 * counted_price i.price o))
    ∙ mul_neg (pos o.left) (pos (unit_loss o.side (i.price * p.weight) (10000 * counted_price i.price o)))

one_more : (b : Bool) (m k : ℕ) (d t : ℤ) → d ≡ neg_ℤ (pos m) → neg_ℤ (pos k) ≡ t → neg_ℤ (pos (cond b m 0 + k)) ≡ cond b d (pos 0) +ℤ t
one_more true m k d t e f = omega (arith, ints)
one_more false m k d t e f = omega (arith, ints)

lost_is : (i : Instrument) (p : Piece) (os : List Order) → neg_ℤ (pos (lost os i.code i.price p.weight)) ≡ total (λ o. cond (on i.code o) (drag i p o) (pos 0)) os
lost_is i p [] = refl
lost_is i p (o ∷ os) = one_more (on i.code o) (loss i.price p.weight o) (lost os i.code i.price p.weight) (drag i p o) _ (drag_is i p o) (lost_is i p os)

-- weight · (price · q) + price · allowance
base_is : (P w a : ℕ) (q z : ℤ) → z ≡ pos P *ℤ q → pos w *ℤ z +ℤ pos (P * a) ≡ pos P *ℤ (pos w *ℤ q +ℤ pos a)
base_is P w a q z e =
    ap (λ x. pos w *ℤ x +ℤ pos (P * a)) e
    ∙ ap (λ x. x +ℤ pos (P * a)) (mul_mul w P q ∙ ap (λ n. pos n *ℤ q) (mul_comm w P) ∙ sym (mul_mul P w q))
    ∙ sym (mul_sum (pos P) (pos w *ℤ q) (pos a))

raw_is : (i : Instrument) (p : Piece) (os : List Order) (q z : ℤ) → z ≡ pos i.price *ℤ q →
    raw i.price z (lost os i.code i.price p.weight) p ≡ pos i.price *ℤ (pos p.weight *ℤ q +ℤ pos p.allowance) +ℤ total (λ o. cond (on i.code o) (drag i p o) (pos 0)) os
raw_is i p os q z e = ap₂ ◌+ℤ◌ (base_is i.price p.weight p.allowance q z e) (lost_is i p os)

-- the part of the orders has all the line's own
low_is : (pieces : ℕ → List Piece) (i : Instrument) (part os : List Order) (q z : ℤ) → z ≡ pos i.price *ℤ q → filter (on i.code) part ≡ filter (on i.code) os →
    least (λ p. down (raw i.price z (lost part i.code i.price p.weight) p) 10000) (with_nought (off_list i.kind) (pieces i.code)) ≡ low (any_sheet pieces) (one_line q os) i
low_is pieces i part os q z e k =
    least_same _ _
    (λ p. ap (λ x. down x 10000) (raw_is i p part q z e ∙ ap (λ x. pos i.price *ℤ (pos p.weight *ℤ q +ℤ pos p.allowance) +ℤ x) (total_alike (on i.code) (drag i p) part os k)))
    (with_nought (off_list i.kind) (pieces i.code))

-- with no order
worth_is : (P c : ℕ) (q z : ℤ) (ps : List Piece) → z ≡ pos P *ℤ q → least (λ p. down (raw P z (lost [] c P p.weight) p) 10000) ps ≡ worth ps P q
worth_is P c q z ps e =
    least_same _ _ (λ p. ap (λ x. down x 10000) (+ℤ_idr (pos p.weight *ℤ z +ℤ pos (P * p.allowance)) ∙ base_is P p.weight p.allowance q z e)) ps

-- what a line comes to with no order is its worth
pub worth_low : (pieces : ℕ → List Piece) (i : Instrument) (q : ℤ) → low (any_sheet pieces) (one_line q []) i ≡ worth (pieces_of (any_sheet pieces) i) i.price q
worth_low pieces i q = least_same _ _ (λ p. ap (λ x. down x 10000) (+ℤ_idr (pos i.price *ℤ (pos p.weight *ℤ q +ℤ pos p.allowance)))) (pieces_of (any_sheet pieces) i)

-- as the code finds it
pub low_found : (pieces : ℕ → List Piece) (i : Instrument) (part os : List Order) (q : ℤ) (code price : ℕ) (z : ℤ) → code ≡ i.code → price ≡ i.price → z ≡ pos i.price *ℤ q → filter (on i.code) part ≡ filter (on i.code) os →
    floored (lower (cond (off_list i.kind) (Some (raw price z (lost part code price 0) nought)) None) (lowest (λ p. raw price z (lost part code price p.weight) p) (pieces code))) ≡ low (any_sheet pieces) (one_line q os) i
low_found pieces i part os q code price z c p e k =
    rw (c, p)
    (ap floored (lower_start (λ p. raw i.price z (lost part i.code i.price p.weight) p) nought (off_list i.kind) (pieces i.code))
    ∙ floored_least (λ p. raw i.price z (lost part i.code i.price p.weight) p) (with_nought (off_list i.kind) (pieces i.code))
    ∙ low_is pieces i part os q z e k)

pub worth_found : (P c : ℕ) (q z : ℤ) (ps : List Piece) → z ≡ pos P *ℤ q → floored (lowest (λ p. raw P z (lost [] c P p.weight) p) ps) ≡ worth ps P q
worth_found P c q z ps e = floored_least (λ p. raw P z (lost [] c P p.weight) p) ps ∙ worth_is P c q z ps e
