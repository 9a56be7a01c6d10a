-- Cash by the place of its currency, and by its code.
use Rattle.std.proofs.Common.{◌≡◌, ℕ, zero, suc, ◌≤◌, Bool, true, false, cond, eqb, List, [], ◌∷◌, length, get_or, set, replicate, ℤ, pos, nat_abs, sym, refl, ap, ◌∙◌, arith}
use Rattle.std.proofs.lemmas.Bool.{eq-eqb, ne_eqb, eqb-true, cond-true, cond-false, cond_both, both_ways}
use Rattle.keyed.specs.Rows.{Rising, Stands}
use Rattle.keyed.proofs.Lookups.{rest, first}
use Rattle.margin.specs.declared.Currency.{Currency}
use Rattle.margin.specs.Keys.{currency_code}
use Rattle.margin.specs.Cash.{cash_by}
use Rattle.register.specs.Writes.{Small}

later : (c : Currency) (cs : List Currency) (k i : ℕ) → Stands currency_code (c ∷ cs) k (suc i) → Stands currency_code cs k i
later c cs k i s = record { within = omega (arith, s.within); here = s.here }

-- a code that stands further on is not the first
not_first : (c : Currency) (cs : List Currency) (k i : ℕ) → Rising currency_code (c ∷ cs) → Stands currency_code (c ∷ cs) k (suc i) → c.code ≡ k → ⊥
not_first c cs k i up s e = omega (arith, first currency_code c cs up i c (omega (arith, s.within)), s.here c)

pub cash_read : (cs : List Currency) (zs : List ℤ) (k i : ℕ) → Rising currency_code cs → Stands currency_code cs k i → length cs ≤ length zs → cash_by cs zs k ≡ get_or zs i (pos 0)
cash_read [] zs k i up s l = absurd (omega (arith, s.within))
cash_read (c ∷ cs) [] k i up s l = absurd (omega arith)
cash_read (c ∷ cs) (z ∷ zs) k zero up s l = cond-true _ _ _ (eq-eqb k c.code (sym (s.here c)))
cash_read (c ∷ cs) (z ∷ zs) k (suc i) up s l =
    cond-false _ _ _ (ne_eqb k c.code (λ e. not_first c cs k i up s (sym e))) ∙ cash_read cs zs k i (rest currency_code c cs up) (later c cs k i s) (omega arith)

swapped : (t u : Bool) (x y z : ℤ) → (t ≡ true → u ≡ false) → cond t x (cond u y z) ≡ cond u y (cond t x z)
swapped true true x y z f = absurd (both_ways true (f refl) refl)
swapped true false x y z f = refl
swapped false u x y z f = refl

hidden : (t u : Bool) (b z y : ℤ) → t ≡ u → cond t b y ≡ cond u b (cond t z y)
hidden true true b z y e = refl
hidden true false b z y e = absurd (both_ways true e refl)
hidden false true b z y e = absurd (both_ways false refl e)
hidden false false b z y e = refl

pub cash_written : (cs : List Currency) (zs : List ℤ) (k i : ℕ) (b : ℤ) → Rising currency_code cs → Stands currency_code cs k i → length cs ≤ length zs → (q : ℕ) → cash_by cs (set zs i b) q ≡ cond (eqb q k) b (cash_by cs zs q)
cash_written [] zs k i b up s l q = absurd (omega (arith, s.within))
cash_written (c ∷ cs) [] k i b up s l q = absurd (omega arith)
cash_written (c ∷ cs) (z ∷ zs) k zero b up s l q = hidden (eqb q c.code) (eqb q k) b z (cash_by cs zs q) (ap (eqb q) (s.here c))
cash_written (c ∷ cs) (z ∷ zs) k (suc i) b up s l q =
    ap (cond (eqb q c.code) z) (cash_written cs zs k i b (rest currency_code c cs up) (later c cs k i s) (omega arith) q)
    ∙ swapped (eqb q c.code) (eqb q k) z b (cash_by cs zs q) (λ t. ap (λ (u : ℕ). eqb u k) (eqb-true q c.code t) ∙ ne_eqb c.code k (not_first c cs k i up s))

pub cash_none : (cs : List Currency) (n k : ℕ) → cash_by cs (replicate n (pos 0)) k ≡ pos 0
cash_none [] n k = refl
cash_none (c ∷ cs) zero k = refl
cash_none (c ∷ cs) (suc n) k = cond_both (eqb k c.code) _ _ (λ (z : ℤ). z ≡ pos 0) (λ _. refl) (λ _. cash_none cs n k)

pub cash_small : (cs : List Currency) (zs : List ℤ) (k : ℕ) → Small zs → nat_abs (cash_by cs zs k) ≤ 200000000000
cash_small [] zs k h = omega arith
cash_small (c ∷ cs) [] k h = omega arith
cash_small (c ∷ cs) (z ∷ zs) k h = cond_both (eqb k c.code) _ _ (λ (y : ℤ). nat_abs y ≤ 200000000000) (λ _. h 0) (λ _. cash_small cs zs k (λ i. h (suc i)))
