-- The worst case of one line.
use Rattle.std.proofs.Common.{◌≡◌, ℕ, ◌*◌, ◌<◌, ◌≤◌, Bool, true, false, cond, List, [], ◌∷◌, length, ℤ, pos, ◌+ℤ◌, ◌-ℤ◌, ◌*ℤ◌, ◌≤ℤ◌, refl, ap, ap₂, arith}
use lib.Signed.{≤ℤ_refl}
use Rattle.std.specs.Int.{int_min}
use Rattle.std.specs.List.{AllByRecursion}
use Rattle.std.proofs.ByRecursion.{All-weaker}
use Rattle.std.proofs.lemmas.Int.{ints}
use Rattle.margin.specs.declared.Instrument.{Instrument}
use Rattle.margin.specs.declared.Order.{Order}
use Rattle.margin.specs.declared.Piece.{Piece}
use Rattle.margin.specs.declared.Side.{Side}
use Rattle.margin.specs.declared.Side.TheVariants.{Buy, Sell}
use Rattle.margin.specs.Numbers.{total, least}
use Rattle.margin.specs.Orders.{signed, on, counted_price}
use Rattle.margin.specs.Holdings.{worth}
use Rattle.margin.specs.Fillings.{Filling}
use Rattle.margin.proofs.Integers.{floor, mul_sum, mul_neg, mul_mul, plus_le, floor_le, floor_plus, drag_le, all_or_none, all_or_none_fits, all_or_none_is, ≤ℤ_antisym}
use Rattle.margin.proofs.Sums.{all_each, sum_same, sum_le_all, sum_linear, least_le, least_shift, least_at}

-- what one unit of the order brings on the piece p, in ten-thousandths
abbrev pub gain : ℕ → Piece → Order → ℤ
gain P p o = signed o.side (pos (P * p.weight) -ℤ pos (10000 * counted_price P o))

-- a quantity on one piece, in ten-thousandths
abbrev pub base : ℕ → ℤ → Piece → ℤ
base P q p = pos P *ℤ (pos p.weight *ℤ q +ℤ pos p.allowance)

abbrev pub moved : ℕ → List Order → Filling → ℤ
moved code os f = total (λ o. cond (on code o) (signed o.side (pos (f o))) (pos 0)) os

abbrev pub paid : Instrument → List Order → Filling → ℤ
paid i os f = total (λ o. cond (on i.code o) (signed o.side (pos (f o * counted_price i.price o))) (pos 0)) os

-- the line with its cash, after a filling
abbrev pub value : List Piece → Instrument → ℤ → List Order → Filling → ℤ
value ps i q os f = worth ps i.price (q +ℤ moved i.code os f) -ℤ paid i os f

-- what a filling brings on a piece
abbrev brings : Instrument → List Order → Filling → Piece → ℤ
brings i os f p = total (λ o. cond (on i.code o) (pos (f o) *ℤ gain i.price p o) (pos 0)) os

-- the most that the orders can lose on a piece
abbrev pub drags : Instrument → List Order → Piece → ℤ
drags i os p = total (λ o. cond (on i.code o) (pos o.left *ℤ int_min (pos 0) (gain i.price p o)) (pos 0)) os

abbrev pub lowest : List Piece → Instrument → ℤ → List Order → ℤ
lowest ps i q os = least (λ p. floor (base i.price q p +ℤ drags i os p)) ps

of_order : (b : Bool) (s : Side) (k f c : ℕ) → pos k *ℤ cond b (signed s (pos f)) (pos 0) ≡ cond b (pos f *ℤ signed s (pos k -ℤ pos (10000 * c))) (pos 0) +ℤ pos 10000 *ℤ cond b (signed s (pos (f * c))) (pos 0)
of_order true Buy k f c = simp (mul_sum, mul_neg) (omega (arith, ints))
of_order true Sell k f c = simp (mul_sum, mul_neg) (omega (arith, ints))
of_order false s k f c = omega (arith, ints)

of_piece : (P w a : ℕ) (q M F D : ℤ) → pos (P * w) *ℤ M ≡ F +ℤ pos 10000 *ℤ D → floor (pos P *ℤ (pos w *ℤ (q +ℤ M) +ℤ pos a)) -ℤ D ≡ floor (pos P *ℤ (pos w *ℤ q +ℤ pos a) +ℤ F)
of_piece P w a q M F D e =
    let s : pos P *ℤ (pos w *ℤ (q +ℤ M) +ℤ pos a) ≡ (pos P *ℤ (pos w *ℤ q +ℤ pos a) +ℤ F) +ℤ pos 10000 *ℤ D = simp (mul_sum, mul_mul) (omega (arith, ints)) in
    rw s (rw floor_plus (omega (arith, ints)))

value_is : (p : Piece) (ps : List Piece) (i : Instrument) (q : ℤ) (os : List Order) (f : Filling) → value (p ∷ ps) i q os f ≡ least (λ p. floor (base i.price q p +ℤ brings i os f p)) (p ∷ ps)
value_is p ps i q os f =
    least_shift (paid i os f) _ _
    (λ p. of_piece i.price p.weight p.allowance q (moved i.code os f) (brings i os f p) (paid i os f) (sum_linear (i.price * p.weight) 10000 _ _ _ (λ o. of_order (on i.code o) o.side (i.price * p.weight) (f o) (counted_price i.price o)) os))
    p ps

pub if_le : (b : Bool) (x y : ℤ) → x ≤ℤ y → cond b x (pos 0) ≤ℤ cond b y (pos 0)
if_le true x y h = h
if_le false x y h = ≤ℤ_refl (pos 0)

pub if_same : (b : Bool) (x y : ℤ) → (b ≡ true → x ≡ y) → cond b x (pos 0) ≡ cond b y (pos 0)
if_same true x y h = h refl
if_same false x y h = refl

pub line_bound : (ps : List Piece) → 0 < length ps → (i : Instrument) (q : ℤ) (os : List Order) (f : Filling) → AllByRecursion (λ o. f o ≤ o.left) os → lowest ps i q os ≤ℤ value ps i q os f
line_bound [] n i q os f a = absurd (omega arith)
line_bound (p ∷ ps) n i q os f a =
    rw (value_is p ps i q os f)
    (least_le _ _ (λ p. floor_le _ _ (plus_le (base i.price q p) _ _ (sum_le_all _ _ os (All-weaker (λ o. f o ≤ o.left) _ (λ o k. if_le (on i.code o) _ _ (drag_le o.left (f o) (gain i.price p o) k)) os a)))) (p ∷ ps))

-- each order filled wholly where that loses on the piece p, and otherwise not at all
abbrev pub against : Instrument → Piece → Filling
against i p o = all_or_none (gain i.price p o) o.left

pub against_fits : (i : Instrument) (p : Piece) (o : Order) → against i p o ≤ o.left
against_fits i p o = all_or_none_fits (gain i.price p o) o.left

pub line_reached : (ps : List Piece) → 0 < length ps → (i : Instrument) (q : ℤ) (os : List Order) → (p : Piece) × (value ps i q os (against i p) ≡ lowest ps i q os)
line_reached [] n i q os = absurd (omega arith)
line_reached (r ∷ ps) n i q os =
    let (p, e, k) = least_at (λ p. floor (base i.price q p +ℤ drags i os p)) r ps in
    let g : brings i os (against i p) p ≡ drags i os p = sum_same _ _ (λ o. ap (λ z. cond (on i.code o) z (pos 0)) (all_or_none_is o.left (gain i.price p o))) os in
    let h : value (r ∷ ps) i q os (against i p) ≤ℤ lowest (r ∷ ps) i q os = rw (value_is r ps i q os (against i p), e, ← g) (k (λ r. floor (base i.price q r +ℤ brings i os (against i p) r))) in
    (p, ≤ℤ_antisym h (line_bound (r ∷ ps) n i q os (against i p) (all_each _ (against_fits i p) os)))

-- a line's value depends on its own orders alone
pub value_same : (ps : List Piece) (i : Instrument) (q : ℤ) (os : List Order) (f g : Filling) → ((o : Order) → on i.code o ≡ true → f o ≡ g o) → value ps i q os f ≡ value ps i q os g
value_same ps i q os f g h =
    ap₂ (λ m d. worth ps i.price (q +ℤ m) -ℤ d)
    (sum_same _ _ (λ o. if_same (on i.code o) _ _ (λ t. ap (λ n. signed o.side (pos n)) (h o t))) os)
    (sum_same _ _ (λ o. if_same (on i.code o) _ _ (λ t. ap (λ n. signed o.side (pos (n * counted_price i.price o))) (h o t))) os)
