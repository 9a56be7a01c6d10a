-- What a table holds after each of its methods.
use Rattle.std.proofs.Common.{◌≡◌, ℕ, true, List, [], ◌∷◌, ◌<◌, length, get_or, is_some, Some, None, Ok, Err, Option, Result, sym, refl, ap, ◌∙◌, subst, arith}
use Rattle.std.specs.Result.{result_ok}
use Rattle.std.proofs.lemmas.List.{get_or_read}
use Rattle.keyed.specs.declared.table.Table.{Table}
use Rattle.keyed.specs.Rows.{Rising, lookup, Stands, Sought, put}
use Rattle.keyed.specs.Laws.{Under, Changes}
use Rattle.keyed.specs.Tables.{entries, room, Sound, Located, Sets}
use Rattle.keyed.proofs.Changes.{changes}
use Rattle.keyed.proofs.Puts.{without_none}
use Rattle.keyed.proofs.Lookups.{lookup_stands, lookup_gap}

module _ {R : Type 0} (key : R → ℕ) where
  -- records whose keys rise, with w at k, are such records again
  pub rise_put : (xs ys : List R) (k : ℕ) (w : Option R) → Rising key xs → Under key k w → ys ≡ put key xs k w → Rising key ys
  rise_put xs ys k w up u e = subst (Rising key) (sym e) (changes key xs k w up u).rise

  -- the record at a key's place is the one that a look-up finds
  pub standing_is : (xs : List R) (q at : ℕ) (x : R) → Rising key xs → Stands key xs q at → x ≡ get_or xs at x → Some x ≡ lookup key xs q
  standing_is xs q at x up s e = ap Some e ∙ sym (lookup_stands key xs q at x up s)

  -- the key of the record at a place stands there
  pub stands : (xs : List R) (at : ℕ) (x : R) → at < length xs → x ≡ get_or xs at x → Stands key xs (key x) at
  stands xs at x l e = record { within = l; here = λ d. sym (ap key (get_or_read xs at x l e d)) }

  some_stands : (xs : List R) (q at : ℕ) → Rising key xs → Stands key xs q at → is_some (lookup key xs q) ≡ true
  some_stands [] q at up s = absurd (omega (arith, s.within))
  some_stands (x ∷ xs) q at up s = ap is_some (lookup_stands key (x ∷ xs) q at x up s)

module _ {R : Type 0} (key : R → ℕ) {K : Type 0} {keyed : _} {ranks : _} where
  -- t's records are those of s with w at k
  pub sets : (s t : Table R K keyed ranks) (k : ℕ) (w : Option R) → Sound key s → Under key k w → entries t ≡ put key (entries s) k w → room t ≡ room s → Sets key s t k w
  sets s t k w up u e n =
      let c : Changes key (entries s) (put key (entries s) k w) k w = changes key (entries s) k w up u in
      record {
        sound = subst (Rising key) (sym e) c.rise;
        rows = e;
        here = ap (λ (zs : List R). lookup key zs k) e ∙ c.here;
        others = λ q ne. ap (λ (zs : List R). lookup key zs q) e ∙ c.others q ne;
        room = n;
      }

  -- what a search finds is what the table holds
  pub located : (t : Table R K keyed ranks) (q : ℕ) (r : Result ℕ ℕ) → Sound key t → Sought key (entries t) q r → Located key t q r
  located t q (Ok i) up s = (s, some_stands key (entries t) q i up s)
  located t q (Err i) up g = (g, sets t t q None up tt (sym (without_none key (entries t) q (lookup_gap key (entries t) q i g))) refl)

  -- the place that a search gives is the key's
  pub found : (t : Table R K keyed ranks) (q at : ℕ) (r : Result ℕ ℕ) → Located key t q r → result_ok r ≡ Some at → Stands key (entries t) q at
  found t q at (Ok i) l e = let same : i ≡ at = cc in subst (Stands key (entries t) q) same l.0
  found t q at (Err i) l e = let z : ◌≡◌ {A = ℕ} 0 1 = cc in absurd (omega arith)
