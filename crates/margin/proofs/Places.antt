-- Sums over the currencies of a sheet, with the cash by place and by code.
use Rattle.std.proofs.Common.{◌≡◌, ℕ, zero, suc, ◌+◌, ◌<◌, ◌≤◌, false, cond, eqb, List, [], ◌∷◌, ◌++◌, Bor, Iter, Option, Some, None, length, get_or, take, ℤ, pos, ◌+ℤ◌, length-append, sym, refl, ap, ◌∙◌, ap₂, arith}
use borrow.Author.Differences.{ints}
use Rattle.std.specs.List.{AllByRecursion}
use Rattle.std.specs.declared.iter.Zip.{Zip}
use Rattle.std.specs.Iterator.{Yields}
use Rattle.std.specs.Iterator.Adapters.{zip_first, zip_second}
use Rattle.std.specs.Slice.Iter.{iter_rest}
use Rattle.std.proofs.iter.Yields.{fronts}
use Rattle.std.proofs.lemmas.Iterator.{zips}
use Rattle.std.proofs.lemmas.List.{take_all}
use Rattle.std.proofs.lemmas.Slice.Zip.{zip_turn, zip_end}
use Rattle.std.proofs.lemmas.Bool.{cond-true, cond-false, eq-eqb, ne_eqb, eqb-false}
use Rattle.margin.specs.declared.Currency.{Currency}
use Rattle.margin.specs.Numbers.{total}
use Rattle.margin.specs.Sheets.{Apart}
use Rattle.margin.specs.Cash.{cash_by}
use Rattle.margin.proofs.Sums.{sum_same_all}

-- the sum of f over the currencies, each with the amount at its place
abbrev pub by_place : (Currency → ℤ → ℤ) → List Currency → List ℤ → ℤ
by_place f [] zs = pos 0
by_place f (c ∷ cs) [] = pos 0
by_place f (c ∷ cs) (z ∷ zs) = f c z +ℤ by_place f cs zs

module _ (f : Currency → ℤ → ℤ) where
  pub by_place_more : (cs : List Currency) (zs : List ℤ) (i : ℕ) (d : Currency) → i < length cs → i < length zs →
      by_place f (take (i + 1) cs) zs ≡ by_place f (take i cs) zs +ℤ f (get_or cs i d) (get_or zs i (pos 0))
  by_place_more [] zs i d h k = absurd (omega arith)
  by_place_more (c ∷ cs) [] i d h k = absurd (omega arith)
  by_place_more (c ∷ cs) (z ∷ zs) zero d h k = omega (arith, ints)
  by_place_more (c ∷ cs) (z ∷ zs) (suc i) d h k =
      let e : suc i + 1 ≡ suc (i + 1) = omega arith in
      ap (λ (n : ℕ). by_place f (take n (c ∷ cs)) (z ∷ zs)) e ∙ omega (arith, ints, by_place_more cs zs i d (omega arith) (omega arith))

  -- a turn of a loop over currencies and amounts side by side, and its end
  module _ (cs : List Currency) (zs : List ℤ) (xs : List (Bor Currency × Bor ℤ)) (s t u : Zip (Iter Currency) (Iter ℤ)) (r : Option (Bor Currency × Bor ℤ)) (first : iter_rest (zip_first s) ≡ cs) (second : iter_rest (zip_second s) ≡ zs) (y : Yields (zips fronts fronts) s xs t) (step : zips fronts fronts t r u) where
    pub by_place_turn : (p : Bor Currency × Bor ℤ) → r ≡ Some p →
        (by_place f (take (length (xs ++ p ∷ [])) cs) zs ≡ by_place f (take (length xs) cs) zs +ℤ f p.0.now p.1.now) × (length xs < length cs) × (length xs < length zs)
    by_place_turn p is =
        let at = zip_turn cs zs xs s t u r first second y p is step in (
          ap (λ n. by_place f (take n cs) zs) (length-append xs (p ∷ []))
              ∙ by_place_more cs zs (length xs) p.0.now at.0 at.1
              ∙ ap₂ (λ c z. by_place f (take (length xs) cs) zs +ℤ f c z) (sym (at.2 p.0.now)) (sym (at.3 (pos 0))),
          at.0,
          at.1,
        )

    pub by_place_end : r ≡ None → length cs ≤ length zs → (by_place f (take (length xs) cs) zs ≡ by_place f cs zs) × (length xs ≤ length cs)
    by_place_end is room =
        let end = zip_end cs zs xs s t u r first second y is step in
        (ap (λ ds. by_place f ds zs) (take_all (length xs) cs (omega arith)), omega arith)

-- a currency found at another code is not found at this one
apart_from : (f : Currency → ℤ → ℤ) (k : ℕ) (z : ℤ) (g : ℕ → ℤ) (cs : List Currency) → AllByRecursion (λ c. eqb k c.code ≡ false) cs →
    AllByRecursion (λ c. f c (cond (eqb c.code k) z (g c.code)) ≡ f c (g c.code)) cs
apart_from f k z g [] a = tt
apart_from f k z g (c ∷ cs) a = (ap (f c) (cond-false _ _ _ (ne_eqb c.code k (λ e. eqb-false k c.code a.0 (sym e)))), apart_from f k z g cs a.1)

-- with codes apart, an amount is found by its code
pub by_code : (f : Currency → ℤ → ℤ) (cs : List Currency) (zs : List ℤ) → Apart (λ c. c.code) cs → length cs ≤ length zs →
    by_place f cs zs ≡ total (λ c. f c (cash_by cs zs c.code)) cs
by_code f [] zs a l = refl
by_code f (c ∷ cs) [] a l = absurd (omega arith)
by_code f (c ∷ cs) (z ∷ zs) a l =
    ap (λ (y : ℤ). f c y +ℤ by_place f cs zs) (sym (cond-true (eqb c.code c.code) z (cash_by cs zs c.code) (eq-eqb c.code c.code refl)))
    ∙ ap (λ (y : ℤ). f c (cash_by (c ∷ cs) (z ∷ zs) c.code) +ℤ y)
    (by_code f cs zs a.1 (omega arith) ∙ sym (sum_same_all _ _ cs (apart_from f c.code z (cash_by cs zs) cs a.0)))
