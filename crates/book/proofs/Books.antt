-- The fields of a book do not depend on how many are allowed for, once that is the book's length.
use Rattle.std.proofs.Common.{◌≡◌, ℕ, zero, suc, ◌+◌, ◌-◌, ◌<◌, ◌≤◌, cond, eqb, List, [], ◌∷◌, ◌++◌, map, length, drop, Some, None, sym, refl, ap, ◌∙◌, append_assoc, arith, length-drop}
use Rattle.std.proofs.lemmas.List.{map_push}
use Rattle.std.proofs.lemmas.Bool.{eq-eqb, ne_eqb, cond-true, cond-false, cond_both, ltb-false}
use Rattle.std.proofs.lemmas.Bool.Decides.{nat_tests}
use Rattle.book.specs.declared.reader.Item.{Item}
use Rattle.book.specs.Book.{Entry, Front, cut_off, stated, front, fields_from, fields_of, seen}

-- a field has a byte at least
pub shorter : (bs : List ℕ) (p : ℕ) → length (front bs p).rest ≤ length bs - 1
shorter bs p =
    cond_both (cut_off bs) _ _ (λ (f : Front). length f.rest ≤ length bs - 1) (λ _. omega arith)
    (λ e. omega (arith, ltb-false _ _ e, length-drop (stated bs) (drop 3 bs), length-drop 3 bs))

none_left : (n : ℕ) (bs : List ℕ) (p : ℕ) → length bs ≡ 0 → fields_from n bs p ≡ []
none_left zero bs p e = refl
none_left (suc n) bs p e = cond-true _ _ _ (eq-eqb _ _ e)

enough : (n m : ℕ) (bs : List ℕ) (p : ℕ) → length bs ≤ n → length bs ≤ m → fields_from n bs p ≡ fields_from m bs p
enough zero m bs p h k = sym (none_left m bs p (omega arith))
enough (suc n) zero bs p h k = none_left (suc n) bs p (omega arith)
enough (suc n) (suc m) bs p h k =
    let l = shorter bs p in
    ap (λ (es : List Entry). cond (eqb (length bs) 0) [] ((front bs p).entry ∷ es))
    (enough n m (front bs p).rest (p + (length bs - length (front bs p).rest)) (omega arith) (omega arith))

-- the fields of a book that is not at its end
book_step : (bs : List ℕ) (p : ℕ) → 0 < length bs → fields_of bs p ≡ (front bs p).entry ∷ fields_of (front bs p).rest (p + (length bs - length (front bs p).rest))
book_step bs p h =
    let l = shorter bs p in
    enough (length bs) (suc (length bs)) bs p (omega arith) (omega arith)
    ∙ cond-false _ _ _ (ne_eqb (length bs) 0 (λ z. omega arith))
    ∙ ap (λ (es : List Entry). (front bs p).entry ∷ es) (enough (length bs) (length (front bs p).rest) (front bs p).rest _ (omega arith) (omega arith))

-- what the reader answers, where it answers a field
pub told : (bs : List ℕ) (p : ℕ) (x : Front) → Some x ≡ cond (eqb (length bs) 0) None (Some (front bs p)) → (x ≡ front bs p) × (length x.rest < length bs)
told bs p x e = grind (arith, nat_tests, shorter bs p)

-- one turn of the loop
pub turn : (out new : List Item) (i : Item) (bs rest : List ℕ) (p : ℕ) (all : List Entry) → 0 < length bs → record { entry = seen i; rest = rest } ≡ front bs p → new ≡ out ++ i ∷ [] →
    map seen out ++ fields_of bs p ≡ all → map seen new ++ fields_of rest (p + (length bs - length rest)) ≡ all
turn out new i bs rest p all h e n inv =
    ap (λ (l : List Item). map seen l ++ fields_of rest (p + (length bs - length rest))) n
    ∙ ap (λ (l : List Entry). l ++ fields_of rest (p + (length bs - length rest))) (map_push seen out i)
    ∙ append_assoc (map seen out) (seen i ∷ []) (fields_of rest (p + (length bs - length rest)))
    ∙ ap (λ (f : Front). map seen out ++ (f.entry ∷ fields_of f.rest (p + (length bs - length f.rest)))) e
    ∙ ap (λ (l : List Entry). map seen out ++ l) (sym (book_step bs p h)) ∙ inv
