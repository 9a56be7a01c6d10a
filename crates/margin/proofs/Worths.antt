-- The worth of a quantity, by pieces that keep the rules.
use Rattle.std.proofs.Common.{◌≡◌, ℕ, suc, Bool, true, false, cond, ◌&&◌, ◌||◌, eqb, leb, ◌⊎◌, List, [], ◌∷◌, ℤ, pos, negsuc, ◌+ℤ◌, ◌*ℤ◌, ◌≤ℤ◌, sym, refl, ap, ◌∙◌, inl, inr, mul-le-mul_right, arith}
use lib.Signed.{≤ℤ_refl}
use Rattle.std.specs.List.{AllByRecursion}
use Rattle.std.proofs.ByRecursion.{All-weaker}
use Rattle.std.proofs.lemmas.Int.{ints, clamps}
use Rattle.std.proofs.lemmas.Bool.{and_parts, or_cases, eqb-true, eq-eqb, leb-true, true≢false}
use Rattle.margin.specs.declared.Instrument.{Instrument}
use Rattle.margin.specs.declared.Piece.{Piece}
use Rattle.margin.specs.Numbers.{least, any}
use Rattle.margin.specs.Sheets.{Sheet, KeepsTheRules, Closed, known, rouble, off_list}
use Rattle.margin.specs.Holdings.{worth, pieces_of, shocked}
use Rattle.margin.proofs.Integers.{floor, floor_is, mul_le, mul_mul, le_eq, ≤ℤ_trans, ≤ℤ_antisym}

-- some element passes the test, and no least is greater than its value
abbrev Passing : {X : Type 0} → (X → Bool) → List X → Type 0
Passing {X} t xs = (p : X) × (t p ≡ true) × ((g : X → ℤ) → least g xs ≤ℤ g p)

passing : {X : Type 0} (t : X → Bool) (xs : List X) → any t xs ≡ true → Passing t xs
passing t [] h = absurd (true≢false (sym h))
passing t (x ∷ []) h = go (t x) refl h
  where
    go : (b : Bool) → t x ≡ b → (b || false) ≡ true → Passing t (x ∷ [])
    go true e k = (x, e, λ g. ≤ℤ_refl (g x))
    go false e k = absurd (true≢false (sym k))
passing t (x ∷ (y ∷ ys)) h = go (t x) refl h (passing t (y ∷ ys))
  where
    go : (b : Bool) → t x ≡ b → (b || any t (y ∷ ys)) ≡ true → (any t (y ∷ ys) ≡ true → Passing t (y ∷ ys)) → Passing t (x ∷ (y ∷ ys))
    go true e k m = (x, e, λ g. omega (arith, ints, clamps))
    go false e k m = let (p, i, l) = m k in (p, i, λ g. omega (arith, ints, clamps, l g))

least_nonneg : {X : Type 0} (g : X → ℤ) → ((x : X) → pos 0 ≤ℤ g x) → (xs : List X) → pos 0 ≤ℤ least g xs
least_nonneg g h [] = ≤ℤ_refl (pos 0)
least_nonneg g h (x ∷ []) = h x
least_nonneg g h (x ∷ (y ∷ ys)) = omega (arith, ints, clamps, h x, least_nonneg g h (y ∷ ys))

abbrev pub Light : List Piece → Type 0
Light ps = any (λ p. eqb p.allowance 0 && leb p.weight 10000) ps ≡ true

abbrev pub Heavy : List Piece → Type 0
Heavy ps = any (λ p. eqb p.allowance 0 && leb 10000 p.weight) ps ≡ true

-- ---- of nought
nought_up : (P w a : ℕ) → pos 0 ≤ℤ floor (pos P *ℤ (pos w *ℤ pos 0 +ℤ pos a))
nought_up P w a = omega (arith, ints)

nought_at : (P w a : ℕ) → a ≡ 0 → floor (pos P *ℤ (pos w *ℤ pos 0 +ℤ pos a)) ≡ pos 0
nought_at P w a e =
    let z : pos w *ℤ pos 0 +ℤ pos a ≡ pos 0 = omega (arith, ints) in
    let y : floor (pos P *ℤ pos 0) ≡ pos 0 = omega (arith, ints, floor_is) in
    ap (λ z. floor (pos P *ℤ z)) z ∙ y

pub worth_nought : (ps : List Piece) (P : ℕ) → Light ps → worth ps P (pos 0) ≡ pos 0
worth_nought ps P l =
    let (p, t, k) = passing _ ps l in
    ≤ℤ_antisym (le_eq (k _) (nought_at P p.weight p.allowance (eqb-true _ _ (and_parts _ _ t).0))) (least_nonneg _ (λ p. nought_up P p.weight p.allowance) ps)

-- ---- no more than price × quantity
by_weight : (w a : ℕ) (q : ℤ) → (pos w *ℤ q) ≤ℤ (pos 10000 *ℤ q) → a ≡ 0 → (P : ℕ) → floor (pos P *ℤ (pos w *ℤ q +ℤ pos a)) ≤ℤ (pos P *ℤ q)
by_weight w a q h e P =
    let m : (pos w *ℤ q +ℤ pos a) ≤ℤ (pos 10000 *ℤ q) = omega (arith, ints) in
    let c : pos P *ℤ (pos 10000 *ℤ q) ≡ pos 10000 *ℤ (pos P *ℤ q) = mul_mul P 10000 q ∙ omega (arith, ints) in
    let l : (pos P *ℤ (pos w *ℤ q +ℤ pos a)) ≤ℤ (pos 10000 *ℤ (pos P *ℤ q)) = le_eq (mul_le P _ _ m) c in
    omega (arith, ints, floor_is (pos P *ℤ (pos w *ℤ q +ℤ pos a)))

pub worth_below : (ps : List Piece) (P : ℕ) → Light ps → Heavy ps → (q : ℤ) → worth ps P q ≤ℤ (pos P *ℤ q)
worth_below ps P l h (pos n) =
    let (p, t, k) = passing _ ps l in
    let (a, w) = and_parts _ _ t in
    ≤ℤ_trans (k _) (by_weight p.weight p.allowance (pos n) (omega (arith, ints, mul-le-mul_right n (leb-true _ _ w))) (eqb-true _ _ a) P)
worth_below ps P l h (negsuc n) =
    let (p, t, k) = passing _ ps h in
    let (a, w) = and_parts _ _ t in
    ≤ℤ_trans (k _) (by_weight p.weight p.allowance (negsuc n) (omega (arith, ints, mul-le-mul_right (suc n) (leb-true _ _ w))) (eqb-true _ _ a) P)

pub nought_is_nought : (ps : List Piece) → KeepsTheRules ps → (P : ℕ) → worth ps P (pos 0) ≡ pos 0
nought_is_nought ps k P = worth_nought ps P k.light

pub worth_at_most : (ps : List Piece) → KeepsTheRules ps → (P : ℕ) (q : ℤ) → worth ps P q ≤ℤ (pos P *ℤ q)
worth_at_most ps k P q = worth_below ps P k.light k.heavy q

-- ---- on a closed sheet
module _ (s : Sheet) where
  abbrev pub RuledSource : Type 0
  RuledSource = (c : ℕ) → known s c ≡ true → KeepsTheRules (s.pieces c)

  pub pieces_light : (i : Instrument) → KeepsTheRules (s.pieces i.code) → Light (pieces_of s i)
  pieces_light i k = go (off_list i.kind) k.light
    where
      go : (b : Bool) → Light (s.pieces i.code) → Light (cond b (record { weight = 0; allowance = 0 } ∷ s.pieces i.code) (s.pieces i.code))
      go true l = refl
      go false l = l

  pub pieces_heavy : (i : Instrument) → KeepsTheRules (s.pieces i.code) → Heavy (pieces_of s i)
  pieces_heavy i k = go (off_list i.kind) k.heavy
    where
      go : (b : Bool) → Heavy (s.pieces i.code) → Heavy (cond b (record { weight = 0; allowance = 0 } ∷ s.pieces i.code) (s.pieces i.code))
      go true l = l
      go false l = l

  pub line_nought : (i : Instrument) → KeepsTheRules (s.pieces i.code) → worth (pieces_of s i) i.price (pos 0) ≡ pos 0
  line_nought i k = worth_nought (pieces_of s i) i.price (pieces_light i k)

  pub line_at_most : (i : Instrument) → KeepsTheRules (s.pieces i.code) → (q : ℤ) → worth (pieces_of s i) i.price q ≤ℤ (pos i.price *ℤ q)
  line_at_most i k q = worth_below (pieces_of s i) i.price (pieces_light i k) (pieces_heavy i k) q

  -- a code that is the rouble's, or known to the source
  pub shocked_at_most : RuledSource → (c : ℕ) → (eqb rouble c || known s c) ≡ true → (e : ℤ) → shocked s c e ≤ℤ e
  shocked_at_most r c k e = go (eqb c rouble) refl (or_cases _ _ k)
    where
      go : (b : Bool) → eqb c rouble ≡ b → (eqb rouble c ≡ true) ⊎ (known s c ≡ true) → cond b e (worth (s.pieces c) 1 e) ≤ℤ e
      go true t u = ≤ℤ_refl e
      go false t (inl u) = absurd (true≢false (sym (eq-eqb c rouble (sym (eqb-true rouble c u))) ∙ t))
      go false t (inr u) = le_eq (worth_at_most (s.pieces c) (r c u) 1 e) (omega (arith, ints))

  pub shocked_at_most_all : Closed s → AllByRecursion (λ c. (e : ℤ) → shocked s c.code e ≤ℤ e) s.currencies
  shocked_at_most_all k = All-weaker (λ c. (eqb rouble c.code || known s c.code) ≡ true) _ (λ c t. shocked_at_most k.source_keeps_the_rules c.code t) s.currencies k.currencies_rated
