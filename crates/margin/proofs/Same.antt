-- Holdings that differ in the order of listing alone have the same figures, gross and cover.
use Rattle.std.proofs.Common.{◌≡◌, ℕ, ◌+◌, ◌*◌, cond, ◌&&◌, eqb, ltb, ℤ, pos, ◌+ℤ◌, ◌-ℤ◌, ◌*ℤ◌, nat_abs, sym, refl, ap, ◌∙◌, ap₂}
use Rattle.keyed.specs.Reordered.{again}
use Rattle.keyed.proofs.Reordered.{reordered_refl, reordered_sym, reordered_kept}
use Rattle.margin.specs.declared.Instrument.{Instrument}
use Rattle.margin.specs.Numbers.{total, count, below}
use Rattle.margin.specs.Sheets.{Sheet}
use Rattle.margin.specs.Orders.{on, sells}
use Rattle.margin.specs.Holdings.{Holding, held, worth, pieces_of, counted, equity, in_roubles, value_of, first_ratio}
use Rattle.margin.specs.Fillings.{drag, low, worst}
use Rattle.margin.specs.Figures.{figures_of}
use Rattle.margin.specs.Limits.{gross_limit, gross_of_line, gross, over_gross, cover, worsens}
use Rattle.margin.specs.Same.{SameHolding, OrderOfListingChangesNoFigure}
use Rattle.margin.proofs.Integers.{floor}
use Rattle.margin.proofs.Lines.{base}
use Rattle.margin.proofs.Lists.{kept_like, any_like}
use Rattle.margin.proofs.Sums.{all_each, sum_same, count_same_all, least_same}
use Rattle.margin.proofs.Reorders.{total_reordered, count_reordered, highest_reordered}
use Rattle.margin.proofs.WorstCase.{ratio_same}

pub same_refl : (h : Holding) → SameHolding h h
same_refl h = record { cash = λ c. refl; planned = λ code. refl; lined = λ code. refl; orders = reordered_refl h.orders }

pub same_sym : {h k : Holding} → SameHolding h k → SameHolding k h
same_sym r = record { cash = λ c. sym (r.cash c); planned = λ code. sym (r.planned code); lined = λ code. sym (r.lined code); orders = reordered_sym r.orders }

pub same_trans : {h k l : Holding} → SameHolding h k → SameHolding k l → SameHolding h l
same_trans r q = record { cash = λ c. r.cash c ∙ q.cash c; planned = λ code. r.planned code ∙ q.planned code; lined = λ code. r.lined code ∙ q.lined code; orders = again r.orders q.orders }

pub cover_listed : (h k : Holding) → SameHolding h k → (code : ℕ) → cover h code ≡ cover k code
cover_listed h k r code = ap₂ (λ q n. q -ℤ pos n) (r.planned code) (count_reordered (λ o. cond (on code o && sells o.side) o.left 0) r.orders)

module _ (s : Sheet) where
  module _ (h k : Holding) (r : SameHolding h k) where
    pub held_listed : (c : ℕ) → held s h c ≡ held s k c
    held_listed c = kept_like _ _ s.instruments (all_each _ (λ i. ap (λ b. eqb c i.currency && b) (r.lined i.code)) s.instruments)

    equity_listed : (v w : Instrument → ℤ) → ((i : Instrument) → v i ≡ w i) → (c : ℕ) → equity s v h c ≡ equity s w k c
    equity_listed v w e c = ap₂ ◌+ℤ◌ (r.cash c) (ap (total v) (held_listed c) ∙ sum_same v w e (held s k c))

    pub value_listed : value_of s h ≡ value_of s k
    value_listed = sum_same _ _ (λ c. ap (in_roubles s c) (equity_listed _ _ (λ i. ap (λ q. counted s i q *ℤ pos i.price) (r.planned i.code)) c.code)) s.currencies

    pub first_listed : first_ratio s h ≡ first_ratio s k
    first_listed = ratio_same s _ _ h k (equity_listed _ _ (λ i. ap (λ q. worth (pieces_of s i) i.price q) (r.planned i.code)))

    pub low_listed : (i : Instrument) → low s h i ≡ low s k i
    low_listed i = least_same _ _ (λ p. ap₂ (λ q z. floor (base i.price q p +ℤ z)) (r.planned i.code) (total_reordered (λ o. cond (on i.code o) (drag i p o) (pos 0)) r.orders)) (pieces_of s i)

    pub worst_listed : worst s h ≡ worst s k
    worst_listed = ratio_same s (low s h) (low s k) h k (equity_listed (low s h) (low s k) low_listed)

    pub figures_listed : figures_of s h ≡ figures_of s k
    figures_listed = let a = value_listed in let b = first_listed in let d = worst_listed in cc

    gross_line_listed : (i : Instrument) → gross_of_line s h i ≡ gross_of_line s k i
    gross_line_listed i =
        ap₂ ◌*◌
        (ap₂ (λ q n. nat_abs q + n) (r.planned i.code) (count_reordered (λ o. cond (on i.code o) o.left 0) r.orders))
        (highest_reordered i.price (reordered_kept (on i.code) r.orders))

    pub gross_listed : (c : ℕ) → gross s h c ≡ gross s k c
    gross_listed c = ap₂ (λ z n. nat_abs z + n) (r.cash c) (ap (count (gross_of_line s h)) (held_listed c) ∙ count_same_all _ _ (held s k c) (all_each _ gross_line_listed (held s k c)))

    pub over_listed : over_gross s h ≡ over_gross s k
    over_listed = any_like _ _ s.currencies (all_each _ (λ c. ap (ltb gross_limit) (gross_listed c.code)) s.currencies)

  pub worsens_listed : (h k h' k' : Holding) → SameHolding h k → SameHolding h' k' → worsens s h h' ≡ worsens s k k'
  worsens_listed h k h' k' r q = ap₂ (λ b a. below a (pos 0) && below a b) (worst_listed h k r) (worst_listed h' k' q)

pub order_of_listing : OrderOfListingChangesNoFigure
order_of_listing = record { figures = figures_listed; over = over_listed; cover = cover_listed }
