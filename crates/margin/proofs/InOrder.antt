-- The figures in order: the worst case is at most the first ratio, and that at most the value.
use Rattle.std.proofs.Common.{◌≡◌, ℕ, zero, suc, Bool, true, false, cond, ◌&&◌, List, [], ◌∷◌, ℤ, pos, negsuc, ◌+ℤ◌, ◌*ℤ◌, ◌≤ℤ◌, refl, ap, ◌∙◌, arith}
use lib.IntN.{*ℤ_comm}
use lib.Signed.{≤ℤ_refl}
use Rattle.std.specs.Int.{int_min}
use Rattle.std.proofs.ByRecursion.{all_kept_by, All-weaker}
use Rattle.std.proofs.lemmas.Int.{ints, clamps}
use Rattle.margin.specs.declared.Instrument.{Instrument}
use Rattle.margin.specs.declared.Order.{Order}
use Rattle.margin.specs.declared.Piece.{Piece}
use Rattle.margin.specs.Numbers.{half_up, total, least, below}
use Rattle.margin.specs.Sheets.{Sheet, Closed, off_list}
use Rattle.margin.specs.Orders.{on}
use Rattle.margin.specs.Holdings.{Holding, worth, pieces_of, counted, held, shocked, value_of, first_ratio}
use Rattle.margin.specs.Fillings.{worst}
use Rattle.margin.specs.Figures.{figures_of}
use Rattle.margin.specs.Facts.{MinimumMarginIsHalfRoundedUp}
use Rattle.margin.proofs.IdleLines.{KeptRules, all_kept_rules}
use Rattle.margin.proofs.Integers.{floor, floor_is, floor_le, drag_none, plus_le, ≤ℤ_trans, le_eq}
use Rattle.margin.proofs.Lines.{gain, base, drags}
use Rattle.margin.proofs.NeverLower.{if_none}
use Rattle.margin.proofs.Sums.{sum_le, sum_le_all, least_le}
use Rattle.margin.proofs.WorstCase.{ratio_le, in_roubles_le}
use Rattle.margin.proofs.Worths.{line_at_most, shocked_at_most_all}

least_first : {X : Type 0} (g : X → ℤ) (x : X) (xs : List X) → least g (x ∷ xs) ≤ℤ g x
least_first g x [] = ≤ℤ_refl (g x)
least_first g x (y ∷ ys) = omega (arith, ints, clamps)

nothing : (P : ℕ) (q : ℤ) → floor (pos P *ℤ (pos 0 *ℤ q +ℤ pos 0)) ≡ pos 0
nothing P q =
    let z : pos 0 *ℤ q +ℤ pos 0 ≡ pos 0 = omega (arith, ints) in
    let y : floor (pos P *ℤ pos 0) ≡ pos 0 = omega (arith, ints, floor_is) in
    ap (λ z. floor (pos P *ℤ z)) z ∙ y

half_is : (z : ℤ) → (z ≤ℤ (pos 2 *ℤ half_up z)) × ((pos 2 *ℤ half_up z) ≤ℤ (z +ℤ pos 1))
half_is (pos zero) = (omega (arith, ints), omega (arith, ints))
half_is (pos (suc n)) = (omega (arith, ints), omega (arith, ints))
half_is (negsuc n) = (omega (arith, ints), omega (arith, ints))

pub minimum_is_half : MinimumMarginIsHalfRoundedUp
minimum_is_half = record { no_less = λ s h. (half_is (figures_of s h).initial).0; by_one_at_most = λ s h. (half_is (figures_of s h).initial).1 }

module _ (s : Sheet) where
  -- off the liquid list a long position counts for nothing
  pub line_at_most_counted : (i : Instrument) → KeptRules s i → (q : ℤ) → worth (pieces_of s i) i.price q ≤ℤ (counted s i q *ℤ pos i.price)
  line_at_most_counted i k q = go (off_list i.kind) (below (pos 0) q) (line_at_most s i k q)
    where
      plain : (z : ℤ) → z ≤ℤ (pos i.price *ℤ q) → z ≤ℤ (q *ℤ pos i.price)
      plain z l = le_eq l (*ℤ_comm (pos i.price) q)

      go : (b c : Bool) → worth (cond b (record { weight = 0; allowance = 0 } ∷ s.pieces i.code) (s.pieces i.code)) i.price q ≤ℤ (pos i.price *ℤ q) → worth (cond b (record { weight = 0; allowance = 0 } ∷ s.pieces i.code) (s.pieces i.code)) i.price q ≤ℤ (cond (b && c) (pos 0) q *ℤ pos i.price)
      go true true l = le_eq (least_first (λ p. floor (pos i.price *ℤ (pos p.weight *ℤ q +ℤ pos p.allowance))) record { weight = 0; allowance = 0 } (s.pieces i.code)) (nothing i.price q ∙ omega (arith, ints))
      go true false l = plain _ l
      go false c l = plain _ l

  pub first_at_most_value : Closed s → (h : Holding) → first_ratio s h ≤ℤ value_of s h
  first_at_most_value c h = sum_le_all _ _ s.currencies (All-weaker (λ c. (e : ℤ) → shocked s c.code e ≤ℤ e) _ (λ c k. in_roubles_le s c _ _ (≤ℤ_trans (k _) (plus_le (h.cash c.code) _ _ (lines c.code)))) s.currencies (shocked_at_most_all s c))
    where
      lines : (c : ℕ) → total (λ i. worth (pieces_of s i) i.price (h.planned i.code)) (held s h c) ≤ℤ total (λ i. counted s i (h.planned i.code) *ℤ pos i.price) (held s h c)
      lines k = sum_le_all _ _ (held s h k) (all_kept_by _ _ s.instruments (All-weaker (KeptRules s) (λ i. worth (pieces_of s i) i.price (h.planned i.code) ≤ℤ (counted s i (h.planned i.code) *ℤ pos i.price)) (λ i g. line_at_most_counted i g (h.planned i.code)) s.instruments (all_kept_rules s c)))

  pub initial_not_negative : Closed s → (h : Holding) → pos 0 ≤ℤ (figures_of s h).initial
  initial_not_negative c h = omega (arith, ints, first_at_most_value c h)

  -- on any sheet
  pub worst_at_most_first : (h : Holding) → worst s h ≤ℤ first_ratio s h
  worst_at_most_first h = ratio_le s _ _ h h (λ c. plus_le (h.cash c) _ _ (sum_le _ _ (λ i. least_le _ _ (λ p. floor_le _ _ (lost i p)) (pieces_of s i)) (held s h c)))
    where
      none : (os : List Order) → total (λ o. pos 0) os ≡ pos 0
      none [] = refl
      none (o ∷ os) = omega (arith, ints, none os)

      lost : (i : Instrument) (p : Piece) → (base i.price (h.planned i.code) p +ℤ drags i h.orders p) ≤ℤ base i.price (h.planned i.code) p
      lost i p = omega (arith, ints, sum_le (λ o. cond (on i.code o) (pos o.left *ℤ int_min (pos 0) (gain i.price p o)) (pos 0)) (λ o. pos 0) (λ o. if_none (on i.code o) _ (drag_none o.left (gain i.price p o))) h.orders, none h.orders)
