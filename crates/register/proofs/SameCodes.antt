-- Two lists of currencies, compared code by code.
use Rattle.std.proofs.Common.{◌≡◌, ℕ, suc, Bool, true, false, cond, not, ◌&&◌, ◌==◌, eqb, List, [], ◌∷◌, length, ℤ, Ok, Err, sym, refl, ap, ◌∙◌, arith}
use Rattle.std.specs.List.{list_all, zip}
use Rattle.std.proofs.lemmas.Bool.{eqb-true, and_parts, both_ways}
use Rattle.sheet.specs.declared.faults.SheetCause.TheVariants.{Unfit}
use Rattle.sheet.specs.Faults.{refusal}
use Rattle.margin.specs.declared.Currency.{Currency}
use Rattle.margin.specs.Cash.{cash_by}
use Rattle.register.specs.Answers.{same_codes}

and_false : (b : Bool) → (b && false) ≡ false
and_false true = refl
and_false false = refl

pub other_length : (xs ys : List Currency) → (length xs ≡ length ys → ⊥) → same_codes xs ys ≡ false
other_length [] [] h = absurd (h refl)
other_length [] (y ∷ ys) h = refl
other_length (x ∷ xs) [] h = refl
other_length (x ∷ xs) (y ∷ ys) h = ap (λ (b : Bool). eqb x.code y.code && b) (other_length xs ys (λ e. h (ap suc e))) ∙ and_false _

pub same_length : (xs ys : List Currency) → same_codes xs ys ≡ true → length xs ≡ length ys
same_length [] [] e = refl
same_length [] (y ∷ ys) e = absurd (both_ways false refl e)
same_length (x ∷ xs) [] e = absurd (both_ways false refl e)
same_length (x ∷ xs) (y ∷ ys) e = ap suc (same_length xs ys (and_parts _ _ e).1)

-- the same codes have the same cash
pub same_cash : (xs ys : List Currency) (zs : List ℤ) (k : ℕ) → same_codes xs ys ≡ true → cash_by ys zs k ≡ cash_by xs zs k
same_cash [] [] zs k e = refl
same_cash [] (y ∷ ys) zs k e = absurd (both_ways false refl e)
same_cash (x ∷ xs) [] zs k e = absurd (both_ways false refl e)
same_cash (x ∷ xs) (y ∷ ys) [] k e = refl
same_cash (x ∷ xs) (y ∷ ys) (z ∷ zs) k e =
    let p = and_parts (eqb x.code y.code) (same_codes xs ys) e in
    ap (λ (n : ℕ). cond (eqb k n) z (cash_by ys zs k)) (sym (eqb-true x.code y.code p.0)) ∙ ap (cond (eqb k x.code) z) (same_cash xs ys zs k p.1)

pub zipped : (xs ys : List Currency) → length xs ≡ length ys → list_all (λ p. p.0.code == p.1.code) (zip xs ys) ≡ same_codes xs ys
zipped [] [] e = refl
zipped [] (y ∷ ys) e = absurd (omega arith)
zipped (x ∷ xs) [] e = absurd (omega arith)
zipped (x ∷ xs) (y ∷ ys) e = ap (λ (b : Bool). (x.code == y.code) && b) (zipped xs ys (omega arith))

-- what is not refused has the same codes
pub fitting : (b : Bool) (u : Unit {0}) → Ok u ≡ cond (not b) (Err (refusal Unfit)) (Ok tt) → b ≡ true
fitting true u e = refl
fitting false u e = let z : ◌≡◌ {A = ℕ} 0 1 = cc in absurd (omega arith)
