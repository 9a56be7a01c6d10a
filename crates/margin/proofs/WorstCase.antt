-- The worst case by formula is the least first ratio over all fillings.
use Rattle.std.proofs.Common.{◌≡◌, ℕ, ◌<◌, ◌≤◌, Bool, true, false, cond, eqb, List, [], ◌∷◌, length, ℤ, pos, ◌+ℤ◌, ◌≤ℤ◌, sym, ap, ◌∙◌, arith}
use lib.IntN.{*ℤ_comm}
use Rattle.std.specs.List.{AllByRecursion}
use Rattle.std.proofs.ByRecursion.{all_kept_by, All-weaker}
use Rattle.std.proofs.lemmas.Int.{ints}
use Rattle.std.proofs.lemmas.Bool.{cond-true, cond-false, ltb-true}
use Rattle.std.proofs.lemmas.Bool.Decides.{nat_tests}
use Rattle.margin.specs.declared.Currency.{Currency}
use Rattle.margin.specs.declared.Instrument.{Instrument}
use Rattle.margin.specs.declared.Order.{Order}
use Rattle.margin.specs.declared.Piece.{Piece}
use Rattle.margin.specs.Sheets.{Sheet, Closed, Apart, known, rouble, off_list}
use Rattle.margin.specs.Orders.{on}
use Rattle.margin.specs.Holdings.{Holding, worth, pieces_of, held, equity, shocked, in_roubles, ratio, first_ratio}
use Rattle.margin.specs.Fillings.{filled, Allowed, WorstCase, low, worst, Filling}
use Rattle.margin.proofs.Integers.{mul_le, floor_le, plus_le, plus_le_right, le_eq}
use Rattle.margin.proofs.Lines.{paid, value, line_bound, line_reached, against, against_fits, value_same}
use Rattle.margin.proofs.Sums.{all_each, both_all, sum_same, sum_same_all, sum_le, sum_le_all, sum_minus, least_le}

-- ---- each map is monotone
pub worth_le : (ps : List Piece) (P : ℕ) (x y : ℤ) → x ≤ℤ y → worth ps P x ≤ℤ worth ps P y
worth_le ps P x y h = least_le _ _ (λ p. floor_le _ _ (mul_le P _ _ (plus_le_right (pos p.allowance) _ _ (mul_le p.weight x y h)))) ps

module _ (s : Sheet) where
  pub shocked_le : (c : ℕ) (x y : ℤ) → x ≤ℤ y → shocked s c x ≤ℤ shocked s c y
  shocked_le c x y h = go (eqb c rouble)
    where
      go : (b : Bool) → cond b x (worth (s.pieces c) 1 x) ≤ℤ cond b y (worth (s.pieces c) 1 y)
      go true = h
      go false = worth_le (s.pieces c) 1 x y h

  pub in_roubles_le : (c : Currency) (x y : ℤ) → x ≤ℤ y → in_roubles s c x ≤ℤ in_roubles s c y
  in_roubles_le c x y h = floor_le _ _ (rw (*ℤ_comm x (pos c.fx), *ℤ_comm y (pos c.fx)) (mul_le c.fx x y h))

  pub ratio_le : (v w : Instrument → ℤ) (h k : Holding) → ((c : ℕ) → equity s v h c ≤ℤ equity s w k c) → ratio s v h ≤ℤ ratio s w k
  ratio_le v w h k e = sum_le _ _ (λ c. in_roubles_le c _ _ (shocked_le c.code _ _ (e c.code))) s.currencies

  pub ratio_same : (v w : Instrument → ℤ) (h k : Holding) → ((c : ℕ) → equity s v h c ≡ equity s w k c) → ratio s v h ≡ ratio s w k
  ratio_same v w h k e = sum_same _ _ (λ c. ap (λ z. in_roubles s c (shocked s c.code z)) (e c.code)) s.currencies

  -- ---- the holding after a filling, line by line
  abbrev after : Filling → Holding → Instrument → ℤ
  after f h i = value (pieces_of s i) i (h.planned i.code) h.orders f

  after_filling : (f : Filling) (h : Holding) → first_ratio s (filled s f h) ≡ ratio s (after f h) h
  after_filling f h = ratio_same (λ i. worth (pieces_of s i) i.price ((filled s f h).planned i.code)) (after f h) (filled s f h) h (λ c. regroup c)
    where
      regroup : (c : ℕ) → equity s (λ i. worth (pieces_of s i) i.price ((filled s f h).planned i.code)) (filled s f h) c ≡ equity s (after f h) h c
      regroup c = omega (arith, ints, sum_minus (λ i. worth (pieces_of s i) i.price ((filled s f h).planned i.code)) (λ i. paid i h.orders f) (held s h c))

  abbrev pub Rated : List Instrument → Type 0
  Rated is = AllByRecursion (λ i. known s i.code ≡ true) is

  pub pieces_there : (i : Instrument) → known s i.code ≡ true → 0 < length (pieces_of s i)
  pieces_there i k = go (off_list i.kind) (ltb-true 0 (length (s.pieces i.code)) k)
    where
      go : (b : Bool) → 0 < length (s.pieces i.code) → 0 < length (cond b (record { weight = 0; allowance = 0 } ∷ s.pieces i.code) (s.pieces i.code))
      go true n = omega arith
      go false n = n

  pub least_bound : Rated s.instruments → (h : Holding) (f : Filling) → Allowed f h → worst s h ≤ℤ first_ratio s (filled s f h)
  least_bound r h f a =
      le_eq
      (ratio_le (low s h) (after f h) h h (λ c. plus_le (h.cash c) _ _ (sum_le_all _ _ (held s h c) (all_kept_by _ _ s.instruments (All-weaker (λ i. known s i.code ≡ true) (λ i. low s h i ≤ℤ after f h i) (λ i k. line_bound (pieces_of s i) (pieces_there i k) i (h.planned i.code) h.orders f a) s.instruments r)))))
      (sym (after_filling f h))

  -- ---- one filling that is the worst for each line
  if_fits : (b : Bool) (x y n : ℕ) → x ≤ n → y ≤ n → cond b x y ≤ n
  if_fits true x y n h k = h
  if_fits false x y n h k = k

  -- an order stands on one of two lines at most
  on_one : (a b : ℕ) (o : Order) → eqb a b ≡ false → on b o ≡ true → on a o ≡ false
  on_one a b o d h = grind (arith, nat_tests)

  abbrev Joint : Holding → List Instrument → Type 0
  Joint h is = (f : Filling) × ((o : Order) → f o ≤ o.left) × AllByRecursion (λ i. after f h i ≡ low s h i) is

  joint : (h : Holding) (is : List Instrument) → Apart (λ i. i.code) is → Rated is → Joint h is
  joint h [] a r = ((λ o. 0), (λ o. omega arith), tt)
  joint h (i ∷ is) a r = more (line_reached (pieces_of s i) (pieces_there i r.0) i (h.planned i.code) h.orders) (joint h is a.1 r.1)
    where
      more : (p : Piece) × (after (against i p) h i ≡ low s h i) → Joint h is → Joint h (i ∷ is)
      more (p, e) (g, fits, es) = (
        f,
        (λ o. if_fits (on i.code o) _ _ o.left (against_fits i p o) (fits o)),
        (
          value_same (pieces_of s i) i (h.planned i.code) h.orders f (against i p) (λ o t. cond-true (on i.code o) _ _ t) ∙ e,
          both_all (λ m. eqb i.code m.code ≡ false) (λ m. after g h m ≡ low s h m) (λ m. after f h m ≡ low s h m)
              (λ m d k. value_same (pieces_of s m) m (h.planned m.code) h.orders f g (λ o t. cond-false (on i.code o) _ _ (on_one i.code m.code o d t)) ∙ k)
              is a.0 es,
        ),
      )
        where
          f : Filling
          f o = cond (on i.code o) (against i p o) (g o)

  pub worst_least : Apart (λ i. i.code) s.instruments → Rated s.instruments → (h : Holding) → WorstCase s h (worst s h)
  worst_least a r h = record { bound = least_bound r h; reached = found (joint h s.instruments a r) }
    where
      found : Joint h s.instruments → (f : Filling) × Allowed f h × (first_ratio s (filled s f h) ≡ worst s h)
      found (f, fits, es) = (
        f,
        all_each _ fits h.orders,
        after_filling f h ∙ ratio_same (after f h) (low s h) h h (λ c. ap (λ z. h.cash c +ℤ z) (sum_same_all _ _ (held s h c) (all_kept_by _ _ s.instruments es))),
      )

pub worst_is_least : (s : Sheet) → Closed s → (h : Holding) → WorstCase s h (worst s h)
worst_is_least s c h = worst_least s c.instruments_apart c.instruments_rated h
