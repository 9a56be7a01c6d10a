-- A fill at the order's own price or better never lowers the worst case.
use Rattle.std.proofs.Common.{◌≡◌, ℕ, ◌-◌, ◌*◌, ◌<◌, ◌≤◌, min, max, Bool, true, false, cond, ◌&&◌, ◌||◌, eqb, ltb, List, [], ◌∷◌, length, ℤ, pos, ◌+ℤ◌, ◌-ℤ◌, ◌*ℤ◌, neg_ℤ, ◌≤ℤ◌, Some, refl, ap, ◌∙◌, ap₂, le_refl, mul-le-mul_left, arith}
use Rattle.std.specs.Int.{int_min}
use Rattle.std.specs.List.{AllByRecursion}
use Rattle.std.proofs.ByRecursion.{All-weaker}
use Rattle.std.proofs.lemmas.Int.{ints}
use Rattle.std.proofs.lemmas.Bool.{eqb-true, ltb-false}
use Rattle.std.proofs.lemmas.Bool.Decides.{nat_tests}
use Rattle.margin.specs.declared.Instrument.{Instrument}
use Rattle.margin.specs.declared.Order.{Order}
use Rattle.margin.specs.declared.Piece.{Piece}
use Rattle.margin.specs.declared.Side.{Side}
use Rattle.margin.specs.declared.Side.TheVariants.{Buy, Sell}
use Rattle.margin.specs.Numbers.{total, any, the_first}
use Rattle.margin.specs.Sheets.{Sheet, Closed, Apart, known, priced_in}
use Rattle.margin.specs.Orders.{less, signed, by_side, on, counted_price, less_filled}
use Rattle.margin.specs.Holdings.{Holding, pieces_of, Lined}
use Rattle.margin.specs.Fillings.{low, worst}
use Rattle.margin.specs.Facts.{Fill}
use Rattle.margin.proofs.IdleLines.{sum_on, ratio_on_le, worst_on, worst_whole}
use Rattle.margin.proofs.Integers.{floor, mul_sum, mul_neg, mul_split, minus_le, plan_plus, floor_le, floor_plus, drag_le, le_eq}
use Rattle.margin.proofs.Lines.{gain, base, drags, lowest}
use Rattle.margin.proofs.Sums.{sum_le_all, sum_minus, least_le, least_shift}
use Rattle.margin.proofs.WorstCase.{Rated, pieces_there}

-- the price p is no worse than c
abbrev pub Fair : Side → ℕ → ℕ → Type 0
Fair Buy p c = p ≤ c
Fair Sell p c = c ≤ p

fair_counted : (d : Side) (p own P : ℕ) → by_side d (ltb own p) (ltb p own) ≡ false → Fair d p (by_side d (max own P) (min own P))
fair_counted Buy p own P h = omega (arith, ltb-false own p h)
fair_counted Sell p own P h = omega (arith, ltb-false p own h)

-- what is paid and what the order can still lose are no more than what the line gains
fill_gain : (d : Side) (k x p c : ℕ) (m : ℤ) → (pos x *ℤ m) ≤ℤ (pos x *ℤ signed d (pos k -ℤ pos (10000 * c))) → Fair d p c → (pos 10000 *ℤ signed d (pos (x * p)) +ℤ pos x *ℤ m) ≤ℤ (pos k *ℤ signed d (pos x))
fill_gain Buy k x p c m l h = omega (arith, ints, simp (mul_sum, mul_neg) at l, mul-le-mul_left x h)
fill_gain Sell k x p c m l h = omega (arith, ints, simp (mul_sum, mul_neg) at l, mul_neg (pos k) (pos x), mul-le-mul_left x h)

shuffle : (A S S' K n r x D : ℤ) → S' +ℤ n ≡ S +ℤ r → n ≡ r +ℤ x → (D +ℤ x) ≤ℤ K → ((A +ℤ S) +ℤ D) ≤ℤ ((A +ℤ K) +ℤ S')
shuffle A S S' K n r x D e f h = omega (arith, ints)

fill_piece : (P w a n x p c : ℕ) (q S S' m : ℤ) (d : Side) → x ≤ n → (pos x *ℤ m) ≤ℤ (pos x *ℤ signed d (pos (P * w) -ℤ pos (10000 * c))) → Fair d p c → S' +ℤ pos n *ℤ m ≡ S +ℤ pos (n - x) *ℤ m → floor (pos P *ℤ (pos w *ℤ q +ℤ pos a) +ℤ S) ≤ℤ (floor (pos P *ℤ (pos w *ℤ (q +ℤ signed d (pos x)) +ℤ pos a) +ℤ S') -ℤ signed d (pos (x * p)))
fill_piece P w a n x p c q S S' m d le l fair e =
    let A : ℤ = pos P *ℤ (pos w *ℤ q +ℤ pos a) in
    let D : ℤ = signed d (pos (x * p)) in
    let t : ((A +ℤ S) +ℤ pos 10000 *ℤ D) ≤ℤ ((A +ℤ pos (P * w) *ℤ signed d (pos x)) +ℤ S') = shuffle A S S' _ (pos n *ℤ m) (pos (n - x) *ℤ m) (pos x *ℤ m) _ e (mul_split n x m le) (fill_gain d (P * w) x p c m l fair) in
    minus_le (floor (A +ℤ S)) D _ (rw (plan_plus P w a q (signed d (pos x)), ← (floor_plus (A +ℤ S) D)) (floor_le _ _ t))

-- the most that one unit of the order can lose on a piece
abbrev loss : Instrument → Piece → Order → ℤ
loss i r o = int_min (pos 0) (gain i.price r o)

fill_line : (ps : List Piece) → 0 < length ps → (i : Instrument) (o : Order) (x p : ℕ) (q : ℤ) (os ns : List Order) → x ≤ o.left → Fair o.side p (counted_price i.price o)
    → ((r : Piece) → drags i ns r +ℤ pos o.left *ℤ loss i r o ≡ drags i os r +ℤ pos (o.left - x) *ℤ loss i r o)
    → lowest ps i q os ≤ℤ (lowest ps i (q +ℤ signed o.side (pos x)) ns -ℤ signed o.side (pos (x * p)))
fill_line [] n i o x p q os ns le fair e = absurd (omega arith)
fill_line (z ∷ ps) n i o x p q os ns le fair e =
    rw (least_shift (signed o.side (pos (x * p))) (λ r. floor (base i.price (q +ℤ signed o.side (pos x)) r +ℤ drags i ns r)) _ (λ r. refl) z ps)
    (least_le _ _ (λ r. fill_piece i.price r.weight r.allowance o.left x p (counted_price i.price o) q (drags i os r) (drags i ns r) (loss i r o) o.side le (drag_le x x (gain i.price r o) (le_refl x)) fair (e r)) (z ∷ ps))

none_off : (a b c : ℤ) → a ≤ℤ b → c ≡ b → a ≤ℤ (c -ℤ pos 0)
none_off a b c l e = omega (arith, ints)

-- ---- the order in its list
less_sum : (g : Order → ℤ) (n x : ℕ) (o : Order) (os : List Order) → the_first (λ r. eqb n r.number) os ≡ Some o → total g (less_filled n x os) +ℤ g o ≡ total g os +ℤ cond (ltb x o.left) (g (less x o)) (pos 0)
less_sum g n x o [] h = let z : ◌≡◌ {A = ℕ} 0 1 = cc in absurd (omega arith)
less_sum g n x o (r ∷ os) h = go (eqb n r.number) h (less_sum g n x o os)
  where
    two : (b : Bool) → total g (cond b (less x r ∷ os) os) +ℤ g r ≡ (g r +ℤ total g os) +ℤ cond b (g (less x r)) (pos 0)
    two true = omega (arith, ints)
    two false = omega (arith, ints)

    go : (b : Bool) → cond b (Some r) (the_first (λ r. eqb n r.number) os) ≡ Some o → (the_first (λ r. eqb n r.number) os ≡ Some o → total g (less_filled n x os) +ℤ g o ≡ total g os +ℤ cond (ltb x o.left) (g (less x o)) (pos 0)) → total g (cond b (cond (ltb x r.left) (less x r ∷ os) os) (r ∷ less_filled n x os)) +ℤ g o ≡ (g r +ℤ total g os) +ℤ cond (ltb x o.left) (g (less x o)) (pos 0)
    go true e k = let d : r ≡ o = cc in rw (← d) (two (ltb x r.left))
    go false e k = omega (arith, ints, k e)

shrink : (n x : ℕ) (m : ℤ) (b t : Bool) → ltb x n ≡ t → cond t (cond b (pos (n - x) *ℤ m) (pos 0)) (pos 0) ≡ cond b (pos (n - x) *ℤ m) (pos 0)
shrink n x m b true e = refl
shrink n x m false false e = refl
shrink n x m true false e = let z : n - x ≡ 0 = omega (arith, ltb-false x n e) in rw z (omega (arith, ints))

drags_less : (i : Instrument) (r : Piece) (n x : ℕ) (o : Order) (os : List Order) → the_first (λ r. eqb n r.number) os ≡ Some o → drags i (less_filled n x os) r +ℤ cond (on i.code o) (pos o.left *ℤ loss i r o) (pos 0) ≡ drags i os r +ℤ cond (on i.code o) (pos (o.left - x) *ℤ loss i r o) (pos 0)
drags_less i r n x o os h = less_sum (λ o. cond (on i.code o) (pos o.left *ℤ loss i r o) (pos 0)) n x o os h ∙ ap (λ z. drags i os r +ℤ z) (shrink o.left x (loss i r o) (on i.code o) (ltb x o.left) refl)

-- ---- the fill
eqb_sym : (a b : ℕ) → eqb a b ≡ eqb b a
eqb_sym a b = grind (arith, nat_tests)

-- of one currency, once at most
sum_apart : (code c : ℕ) (D : ℤ) (is : List Instrument) → Apart (λ i. i.code) is → total (λ i. cond (eqb code i.code && eqb c i.currency) D (pos 0)) is ≡ cond (any (λ i. eqb code i.code && eqb c i.currency) is) D (pos 0)
sum_apart code c D [] a = refl
sum_apart code c D (i ∷ is) a = go (eqb code i.code && eqb c i.currency) refl (sum_apart code c D is a.1)
  where
    other : (m : Instrument) → eqb code i.code && eqb c i.currency ≡ true → eqb i.code m.code ≡ false → (eqb code m.code && eqb c m.currency) ≡ false
    other m t d = grind (arith, nat_tests)

    none : (ms : List Instrument) → AllByRecursion (λ m. (eqb code m.code && eqb c m.currency) ≡ false) ms → total (λ i. cond (eqb code i.code && eqb c i.currency) D (pos 0)) ms ≡ pos 0
    none [] t = refl
    none (m ∷ ms) t = ap₂ (λ b z. cond b D (pos 0) +ℤ z) t.0 (none ms t.1)

    go : (b : Bool) → (eqb code i.code && eqb c i.currency) ≡ b → total (λ i. cond (eqb code i.code && eqb c i.currency) D (pos 0)) is ≡ cond (any (λ i. eqb code i.code && eqb c i.currency) is) D (pos 0) → cond b D (pos 0) +ℤ total (λ i. cond (eqb code i.code && eqb c i.currency) D (pos 0)) is ≡ cond (b || any (λ i. eqb code i.code && eqb c i.currency) is) D (pos 0)
    go true e k = omega (arith, ints, none is (All-weaker (λ m. eqb i.code m.code ≡ false) _ (λ m d. other m e d) is a.0))
    go false e k = omega (arith, ints, k)

module _ (s : Sheet) (n x p : ℕ) (o : Order) (h k : Holding) (f : Fill s n x p o h k) where
  abbrev cost : ℤ
  cost = signed o.side (pos (x * p))

  fill_low : (i : Instrument) → known s i.code ≡ true → low s h i ≤ℤ (low s k i -ℤ cond (on i.code o) cost (pos 0))
  fill_low i r = rw (ap₂ (λ q os. lowest (pieces_of s i) i q os) (f.planned i.code) f.orders) (go (on i.code o) (λ r. drags_less i r n x o h.orders f.standing))
    where
      go : (b : Bool) → ((r : Piece) → drags i (less_filled n x h.orders) r +ℤ cond b (pos o.left *ℤ loss i r o) (pos 0) ≡ drags i h.orders r +ℤ cond b (pos (o.left - x) *ℤ loss i r o) (pos 0)) → low s h i ≤ℤ (lowest (pieces_of s i) i (h.planned i.code +ℤ cond b (signed o.side (pos x)) (pos 0)) (less_filled n x h.orders) -ℤ cond b cost (pos 0))
      go true e = fill_line (pieces_of s i) (pieces_there s i r) i o x p (h.planned i.code) h.orders (less_filled n x h.orders) (omega (arith, ltb-false o.left x f.enough)) (fair_counted o.side p o.price i.price f.fair) e
      go false e =
          let z : h.planned i.code +ℤ pos 0 ≡ h.planned i.code = omega (arith, ints) in
          let l : low s h i ≤ℤ lowest (pieces_of s i) i (h.planned i.code) (less_filled n x h.orders) = least_le _ _ (λ r. floor_le _ _ (same r)) (pieces_of s i) in
          none_off _ _ _ l (ap (λ q. lowest (pieces_of s i) i q (less_filled n x h.orders)) z)
        where
          same : (r : Piece) → (base i.price (h.planned i.code) r +ℤ drags i h.orders r) ≤ℤ (base i.price (h.planned i.code) r +ℤ drags i (less_filled n x h.orders) r)
          same r = omega (arith, ints, e r)

  per : (c t b d : Bool) (V W D : ℤ) → b ≡ d → (b ≡ true → t ≡ true) → V ≤ℤ (W -ℤ cond b D (pos 0)) → cond (c && t) V (pos 0) ≤ℤ (cond (c && t) W (pos 0) -ℤ cond (d && c) D (pos 0))
  per c t true d V W D e u l = rw (u refl, ← e) (at c)
    where
      at : (c : Bool) → cond (c && true) V (pos 0) ≤ℤ (cond (c && true) W (pos 0) -ℤ cond (true && c) D (pos 0))
      at true = l
      at false = omega (arith, ints)
  per c t false d V W D e u l = rw (← e) (at (c && t))
    where
      at : (b : Bool) → cond b V (pos 0) ≤ℤ (cond b W (pos 0) -ℤ pos 0)
      at true = omega (arith, ints, l)
      at false = omega (arith, ints)

  fill_sum : Apart (λ i. i.code) s.instruments → Rated s s.instruments → (t : ℕ → Bool) → t o.code ≡ true → (c : ℕ) → sum_on s t (low s h) c ≤ℤ (sum_on s t (low s k) c -ℤ cond (priced_in s o.code c) cost (pos 0))
  fill_sum a r t u c =
      le_eq
      (sum_le_all _ _ s.instruments (All-weaker (λ i. known s i.code ≡ true) _ (λ i g. per (eqb c i.currency) (t i.code) (on i.code o) (eqb o.code i.code) _ _ cost (eqb_sym i.code o.code) (λ e. ap t (eqb-true _ _ e) ∙ u) (fill_low i g)) s.instruments r))
      (sum_minus _ _ s.instruments ∙ ap (λ z. sum_on s t (low s k) c -ℤ z) (sum_apart o.code c cost s.instruments a))

  pub fill_on : Apart (λ i. i.code) s.instruments → Rated s s.instruments → (t : ℕ → Bool) → t o.code ≡ true → worst_on s t h ≤ℤ worst_on s t k
  fill_on a r t u = ratio_on_le s t t (low s h) (low s k) h.cash k.cash (λ c. settle (priced_in s o.code c) _ _ _ _ cost (f.cash c) (fill_sum a r t u c))
    where
      settle : (b : Bool) (C C' S S' D : ℤ) → C' ≡ C +ℤ cond b (neg_ℤ D) (pos 0) → S ≤ℤ (S' -ℤ cond b D (pos 0)) → (C +ℤ S) ≤ℤ (C' +ℤ S')
      settle true C C' S S' D e l = omega (arith, ints)
      settle false C C' S S' D e l = omega (arith, ints)

-- each with the lines that it needs
pub fill_never_lowers : (s : Sheet) → Closed s → (n x p : ℕ) (o : Order) (h k : Holding) → Fill s n x p o h k → Lined h → Lined k → worst s h ≤ℤ worst s k
fill_never_lowers s c n x p o h k f a b = rw (worst_whole s c h a, worst_whole s c k b) (fill_on s n x p o h k f c.instruments_apart c.instruments_rated (λ _. true) refl)
