-- Lines with nothing planned and no order count for nothing: sums over the sheet's instruments, with a test on codes in place of the lines.
use Rattle.std.proofs.Common.{◌≡◌, ℕ, ◌+◌, ◌*◌, Bool, true, false, cond, ◌&&◌, eqb, ◌⊎◌, List, [], ◌∷◌, ℤ, pos, ◌+ℤ◌, ◌*ℤ◌, nat_abs, ◌≤ℤ◌, filter, sym, refl, ap, ◌∙◌, ap₂, inl, inr, arith}
use Rattle.std.specs.Int.{int_min}
use Rattle.std.specs.List.{AllByRecursion}
use Rattle.std.proofs.ByRecursion.{All-weaker}
use Rattle.std.proofs.lemmas.Int.{ints}
use Rattle.std.proofs.lemmas.Bool.{or_parts, cond-false}
use Rattle.margin.specs.declared.Instrument.{Instrument}
use Rattle.margin.specs.declared.Order.{Order}
use Rattle.margin.specs.declared.Piece.{Piece}
use Rattle.margin.specs.Numbers.{total, count, any, below}
use Rattle.margin.specs.Sheets.{Sheet, Closed, KeepsTheRules, known, off_list}
use Rattle.margin.specs.Orders.{on}
use Rattle.margin.specs.Holdings.{lined, Idle, Lined, Holding, worth, pieces_of, counted, net, shocked, in_roubles, value_of, ratio, first_ratio}
use Rattle.margin.specs.Fillings.{low, worst}
use Rattle.margin.specs.Figures.{figures_of}
use Rattle.margin.specs.Limits.{highest, gross_of_line, gross}
use Rattle.margin.specs.Facts.{SameButIdleLines}
use Rattle.margin.proofs.Integers.{floor}
use Rattle.margin.proofs.Lines.{gain, base, drags, lowest}
use Rattle.margin.proofs.Sums.{all_each, sum_same, sum_same_all, sum_le, sum_kept, count_same_all, count_kept, least_same}
use Rattle.margin.proofs.WorstCase.{in_roubles_le, shocked_le}
use Rattle.margin.proofs.Worths.{line_nought}

-- two tests agree, but for codes of which nothing is held
abbrev pub Alike : Holding → (ℕ → Bool) → (ℕ → Bool) → Type 0
Alike h t u = (code : ℕ) → (t code ≡ u code) ⊎ Idle h code

module _ (s : Sheet) where
  abbrev pub sum_on : (ℕ → Bool) → (Instrument → ℤ) → ℕ → ℤ
  sum_on t v c = total (λ i. cond (eqb c i.currency && t i.code) (v i) (pos 0)) s.instruments

  abbrev pub ratio_on : (ℕ → Bool) → (Instrument → ℤ) → (ℕ → ℤ) → ℤ
  ratio_on t v cash = total (λ c. in_roubles s c (shocked s c.code (cash c.code +ℤ sum_on t v c.code))) s.currencies

  abbrev pub worst_on : (ℕ → Bool) → Holding → ℤ
  worst_on t h = ratio_on t (low s h) h.cash

  pub ratio_is : (v : Instrument → ℤ) (h : Holding) → ratio s v h ≡ ratio_on (lined h) v h.cash
  ratio_is v h = sum_same _ _ (λ c. ap (λ z. in_roubles s c (shocked s c.code (h.cash c.code +ℤ z))) (sum_kept _ v s.instruments)) s.currencies

  pub worst_is : (h : Holding) → worst s h ≡ worst_on (lined h) h
  worst_is h = ratio_is (low s h) h

  pub ratio_on_le : (t u : ℕ → Bool) (v w : Instrument → ℤ) (a b : ℕ → ℤ) → ((c : ℕ) → (a c +ℤ sum_on t v c) ≤ℤ (b c +ℤ sum_on u w c)) → ratio_on t v a ≤ℤ ratio_on u w b
  ratio_on_le t u v w a b e = sum_le _ _ (λ c. in_roubles_le s c _ _ (shocked_le s c.code _ _ (e c.code))) s.currencies

  pub ratio_on_same : (t u : ℕ → Bool) (v w : Instrument → ℤ) (a b : ℕ → ℤ) → ((c : ℕ) → a c +ℤ sum_on t v c ≡ b c +ℤ sum_on u w c) → ratio_on t v a ≡ ratio_on u w b
  ratio_on_same t u v w a b e = sum_same _ _ (λ c. ap (λ z. in_roubles s c (shocked s c.code z)) (e c.code)) s.currencies

  -- ---- what is idle counts for nothing
  none_on : {X : Type 0} (n : X) (g : Order → X) (code : ℕ) (o : Order) → on code o ≡ false → cond (on code o) (g o) n ≡ n
  none_on n g code o e = cond-false (on code o) _ _ e

  no_total : (g : Order → ℤ) (code : ℕ) (os : List Order) → any (on code) os ≡ false → total (λ o. cond (on code o) (g o) (pos 0)) os ≡ pos 0
  no_total g code [] e = refl
  no_total g code (o ∷ os) e = let (a, b) = or_parts _ _ e in ap₂ ◌+ℤ◌ (none_on (pos 0) g code o a) (no_total g code os b)

  no_count : (g : Order → ℕ) (code : ℕ) (os : List Order) → any (on code) os ≡ false → count (λ o. cond (on code o) (g o) 0) os ≡ 0
  no_count g code [] e = refl
  no_count g code (o ∷ os) e = let (a, b) = or_parts _ _ e in ap₂ ◌+◌ (none_on 0 g code o a) (no_count g code os b)

  abbrev pub KeptRules : Instrument → Type 0
  KeptRules i = KeepsTheRules (s.pieces i.code)

  pub all_kept_rules : Closed s → AllByRecursion KeptRules s.instruments
  all_kept_rules c = All-weaker (λ i. known s i.code ≡ true) KeptRules (λ i k. c.source_keeps_the_rules i.code k) s.instruments c.instruments_rated

  pub worth_idle : (h : Holding) (i : Instrument) → KeptRules i → Idle h i.code → worth (pieces_of s i) i.price (h.planned i.code) ≡ pos 0
  worth_idle h i k (a, b) = ap (λ q. worth (pieces_of s i) i.price q) a ∙ line_nought s i k

  pub low_idle : (h : Holding) (i : Instrument) → KeptRules i → Idle h i.code → low s h i ≡ pos 0
  low_idle h i k (a, b) = least_same _ _ (λ p. ap floor (bare p)) (pieces_of s i) ∙ worth_idle h i k (a, b)
    where
      bare : (p : Piece) → base i.price (h.planned i.code) p +ℤ drags i h.orders p ≡ base i.price (h.planned i.code) p
      bare p = omega (arith, ints, no_total (λ o. pos o.left *ℤ int_min (pos 0) (gain i.price p o)) i.code h.orders b)

  pub net_idle : (h : Holding) (i : Instrument) → Idle h i.code → counted s i (h.planned i.code) *ℤ pos i.price ≡ pos 0
  net_idle h i (a, b) = ap (λ q. counted s i q *ℤ pos i.price) a ∙ go (off_list i.kind && below (pos 0) (pos 0))
    where
      go : (b : Bool) → cond b (pos 0) (pos 0) *ℤ pos i.price ≡ pos 0
      go true = omega (arith, ints)
      go false = omega (arith, ints)

  pub gross_idle : (h : Holding) (i : Instrument) → Idle h i.code → gross_of_line s h i ≡ 0
  gross_idle h i (a, b) = ap₂ (λ n m. (nat_abs n + m) * highest i.price (filter (on i.code) h.orders)) a (no_count (λ o. o.left) i.code h.orders b) ∙ omega arith

  -- ---- lines of which nothing is held make no difference
  if_alike : (b t u : Bool) (x : ℤ) → (t ≡ u) ⊎ (x ≡ pos 0) → cond (b && t) x (pos 0) ≡ cond (b && u) x (pos 0)
  if_alike b t u x (inl e) = ap (λ t. cond (b && t) x (pos 0)) e
  if_alike b t u x (inr e) = none (b && t) ∙ sym (none (b && u))
    where
      none : (b : Bool) → cond b x (pos 0) ≡ pos 0
      none true = e
      none false = refl

  pub sum_alike : (h : Holding) (t u : ℕ → Bool) (v : Instrument → ℤ) → Alike h t u → AllByRecursion (λ i. Idle h i.code → v i ≡ pos 0) s.instruments → (c : ℕ) → sum_on t v c ≡ sum_on u v c
  sum_alike h t u v a z c = sum_same_all _ _ s.instruments (All-weaker (λ i. Idle h i.code → v i ≡ pos 0) _ (λ i k. if_alike (eqb c i.currency) (t i.code) (u i.code) (v i) (either (a i.code) k)) s.instruments z)
    where
      either : {A B C : Type 0} → A ⊎ B → (B → C) → A ⊎ C
      either (inl x) k = inl x
      either (inr x) k = inr (k x)

  pub worst_alike : Closed s → (h : Holding) (t u : ℕ → Bool) → Alike h t u → worst_on t h ≡ worst_on u h
  worst_alike k h t u a = ratio_on_same t u (low s h) (low s h) h.cash h.cash (λ c. ap (λ z. h.cash c +ℤ z) (sum_alike h t u (low s h) a (All-weaker KeptRules _ (λ i r. low_idle h i r) s.instruments (all_kept_rules k)) c))

  -- a holding with every line that it needs: its worst case by all instruments
  pub worst_whole : Closed s → (h : Holding) → Lined h → worst s h ≡ worst_on (λ _. true) h
  worst_whole k h l = worst_is h ∙ worst_alike k h (lined h) (λ _. true) l

  low_same : (h k : Holding) → SameButIdleLines h k → (i : Instrument) → low s h i ≡ low s k i
  low_same h k r i = ap₂ (λ q os. lowest (pieces_of s i) i q os) (r.planned i.code) r.orders

  -- of any value of lines that the planned quantity and the orders make, and that is nought where both are
  relined : (h k : Holding) → SameButIdleLines h k → (v w : Instrument → ℤ) → ((i : Instrument) → v i ≡ w i) → AllByRecursion (λ i. Idle h i.code → v i ≡ pos 0) s.instruments → (c : ℕ) → h.cash c +ℤ sum_on (lined h) v c ≡ k.cash c +ℤ sum_on (lined k) w c
  relined h k r v w e z c = ap₂ ◌+ℤ◌ (r.cash c) (sum_alike h (lined h) (lined k) v r.lines z c ∙ sum_same _ _ (λ i. ap (λ x. cond (eqb c i.currency && lined k i.code) x (pos 0)) (e i)) s.instruments)

  pub worst_relined : Closed s → (h k : Holding) → SameButIdleLines h k → worst s h ≡ worst s k
  worst_relined c h k r =
      worst_is h
      ∙ ratio_on_same (lined h) (lined k) (low s h) (low s k) h.cash k.cash (relined h k r (low s h) (low s k) (low_same h k r) (All-weaker KeptRules _ (λ i g. low_idle h i g) s.instruments (all_kept_rules c)))
      ∙ sym (worst_is k)

  abbrev worth_of : Holding → Instrument → ℤ
  worth_of h i = worth (pieces_of s i) i.price (h.planned i.code)

  pub first_relined : Closed s → (h k : Holding) → SameButIdleLines h k → first_ratio s h ≡ first_ratio s k
  first_relined c h k r =
      ratio_is (worth_of h) h
      ∙ ratio_on_same (lined h) (lined k) (worth_of h) (worth_of k) h.cash k.cash (relined h k r (worth_of h) (worth_of k) (λ i. ap (λ q. worth (pieces_of s i) i.price q) (r.planned i.code)) (All-weaker KeptRules _ (λ i g. worth_idle h i g) s.instruments (all_kept_rules c)))
      ∙ sym (ratio_is (worth_of k) k)

  abbrev at_price : Holding → Instrument → ℤ
  at_price h i = counted s i (h.planned i.code) *ℤ pos i.price

  pub net_relined : (h k : Holding) → SameButIdleLines h k → (c : ℕ) → net s h c ≡ net s k c
  net_relined h k r c =
      ap (λ z. h.cash c +ℤ z) (sum_kept _ (at_price h) s.instruments)
      ∙ relined h k r (at_price h) (at_price k) (λ i. ap (λ q. counted s i q *ℤ pos i.price) (r.planned i.code)) (all_each _ (λ i. net_idle h i) s.instruments) c
      ∙ ap (λ z. k.cash c +ℤ z) (sym (sum_kept _ (at_price k) s.instruments))

  pub value_relined : (h k : Holding) → SameButIdleLines h k → value_of s h ≡ value_of s k
  value_relined h k r = sum_same _ _ (λ c. ap (λ z. in_roubles s c z) (net_relined h k r c.code)) s.currencies

  if_alike_count : (b t u : Bool) (x y : ℕ) → x ≡ y → (t ≡ u) ⊎ (x ≡ 0) → cond (b && t) x 0 ≡ cond (b && u) y 0
  if_alike_count b t u x y d (inl e) = ap₂ (λ t x. cond (b && t) x 0) e d
  if_alike_count b t u x y d (inr e) = none (b && t) x e ∙ sym (none (b && u) y (sym d ∙ e))
    where
      none : (b : Bool) (x : ℕ) → x ≡ 0 → cond b x 0 ≡ 0
      none true x e = e
      none false x e = refl

  pub gross_relined : (h k : Holding) → SameButIdleLines h k → (c : ℕ) → gross s h c ≡ gross s k c
  gross_relined h k r c = ap₂ (λ x y. nat_abs x + y) (r.cash c) (
      count_kept _ (gross_of_line s h) s.instruments
      ∙ count_same_all _ _ s.instruments (all_each _ one s.instruments)
      ∙ sym (count_kept _ (gross_of_line s k) s.instruments)
      )
    where
      line : (i : Instrument) → gross_of_line s h i ≡ gross_of_line s k i
      line i = ap₂ (λ q os. (nat_abs q + count (λ o. cond (on i.code o) o.left 0) os) * highest i.price (filter (on i.code) os)) (r.planned i.code) r.orders

      either : {A : Type 0} (i : Instrument) → A ⊎ Idle h i.code → A ⊎ (gross_of_line s h i ≡ 0)
      either i (inl x) = inl x
      either i (inr x) = inr (gross_idle h i x)

      one : (i : Instrument) → cond (eqb c i.currency && lined h i.code) (gross_of_line s h i) 0 ≡ cond (eqb c i.currency && lined k i.code) (gross_of_line s k i) 0
      one i = if_alike_count (eqb c i.currency) (lined h i.code) (lined k i.code) (gross_of_line s h i) (gross_of_line s k i) (line i) (either i (r.lines i.code))

  pub figures_relined : Closed s → (h k : Holding) → SameButIdleLines h k → figures_of s h ≡ figures_of s k
  figures_relined c h k r = let a = value_relined h k r in let b = first_relined c h k r in let d = worst_relined c h k r in cc
