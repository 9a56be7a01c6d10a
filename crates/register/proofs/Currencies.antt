-- The currencies of a sheet, whose codes rise.
use Rattle.std.proofs.Common.{◌≡◌, ℕ, suc, ◌<◌, true, false, cond, eqb, List, [], ◌∷◌, length, get_or, is_some, Some, Option, sym, refl, ap, ◌∙◌, arith}
use Rattle.std.specs.List.{AllByRecursion}
use Rattle.std.proofs.lemmas.Bool.{ne_eqb}
use Rattle.keyed.specs.Rows.{Rising, lookup, Stands, Gap}
use Rattle.keyed.proofs.Lookups.{rest, first, lookup_at, lookup_gap}
use Rattle.margin.specs.declared.Currency.{Currency}
use Rattle.margin.specs.Keys.{currency_code}
use Rattle.margin.specs.Numbers.{the_first}
use Rattle.margin.specs.Sheets.{Apart}

all_later : (c : Currency) (cs : List Currency) → ((i : ℕ) (d : Currency) → i < length cs → c.code < (get_or cs i d).code) → AllByRecursion (λ d. eqb c.code d.code ≡ false) cs
all_later c [] h = tt
all_later c (d ∷ ds) h = (ne_eqb c.code d.code (λ e. omega (arith, h 0 d (omega arith))), all_later c ds (λ i x l. h (suc i) x (omega arith)))

pub rising_apart : (cs : List Currency) → Rising currency_code cs → Apart (λ c. c.code) cs
rising_apart [] up = tt
rising_apart (c ∷ cs) up = (all_later c cs (λ i d l. first currency_code c cs up i d l), rising_apart cs (rest currency_code c cs up))

-- the first with a code is the one that is looked up
found_is : (cs : List Currency) (k : ℕ) → the_first (λ x. eqb k x.code) cs ≡ lookup currency_code cs k
found_is [] k = refl
found_is (c ∷ cs) k = ap (λ (o : Option Currency). cond (eqb k c.code) (Some c) o) (found_is cs k)

module _ (cs : List Currency) (k i : ℕ) where
  pub standing : Rising currency_code cs → Stands currency_code cs k i → is_some (the_first (λ x. eqb k x.code) cs) ≡ true
  standing up s =
      let d : Currency = record { code = 0; fx = 0 } in
      ap is_some (found_is cs k ∙ ap (lookup currency_code cs) (sym (s.here d)) ∙ lookup_at currency_code cs i d up s.within)

  pub absent : Gap currency_code cs k i → is_some (the_first (λ x. eqb k x.code) cs) ≡ false
  absent g = ap is_some (found_is cs k ∙ lookup_gap currency_code cs k i g)
