-- The answer to a currency entry by what a search of the table found, and the table with the entry in it.
use Rattle.std.proofs.Common.{◌≡◌, ℕ, ◌+◌, ◌<◌, ◌≤◌, true, false, ◌||◌, List, length, take, drop, is_some, Ok, Err, Result, sym, ap, ◌∙◌, subst, arith}
use Rattle.std.specs.List.{insert}
use Rattle.std.proofs.lemmas.Grind.{common_steps}
use Rattle.book.specs.Ranges.{no_currency, no_fx, ranged}
use Rattle.book.proofs.Refusals.{not_refused}
use Rattle.keyed.specs.Rows.{Rising, lookup, Stands, Gap, Sought}
use Rattle.keyed.proofs.Lookups.{lookup_stands, lookup_gap, rising_inserted}
use Rattle.keyed.proofs.Puts.{inserted_is}
use Rattle.margin.specs.declared.Currency.{Currency}
use Rattle.margin.specs.Keys.{currency_code}
use Rattle.sheet.specs.declared.drafts.Draft.{Draft}
use Rattle.sheet.specs.declared.faults.SheetCause.TheVariants.{Entered, Full}
use Rattle.sheet.specs.Faults.{refusal}
use Rattle.sheet.specs.Drafts.{entries, InOrder, most, enters, EnteredIn}

-- what a search of the draft's entries finds
pub sought : (d : Draft) (table xs : List Currency) (code : ℕ) (r : Result ℕ ℕ) → InOrder d table → xs ≡ entries d table → (Rising currency_code xs → Sought currency_code xs code r) → Sought currency_code (entries d table) code r
sought d table xs code r o are f = subst (λ (ys : List Currency). (Rising currency_code ys → Sought currency_code ys code r)) are f o.rising

-- the currency x, with its numbers in their ranges, meets a table in order
module _ (d : Draft) (table : List Currency) (x : Currency) (u : Unit {0}) (checked : Ok u ≡ ranged (no_currency x.code || no_fx x.fx) 0) (o : InOrder d table) where
  inside : (no_currency x.code || no_fx x.fx) ≡ false
  inside = not_refused (no_currency x.code || no_fx x.fx) 0 u checked

  found : (i : ℕ) → Stands currency_code (entries d table) x.code i → is_some (lookup currency_code (entries d table) x.code) ≡ true
  found i s = ap is_some (lookup_stands currency_code (entries d table) x.code i x o.rising s)

  missing : (i : ℕ) → Gap currency_code (entries d table) x.code i → is_some (lookup currency_code (entries d table) x.code) ≡ false
  missing i g = ap is_some (lookup_gap currency_code (entries d table) x.code i g)

  pub entered : (i : ℕ) → Stands currency_code (entries d table) x.code i → Err (refusal Entered) ≡ enters d table x.code x.fx
  entered i s = grind (arith, common_steps, inside, found i s)

  pub full : (i : ℕ) → Gap currency_code (entries d table) x.code i → most table ≤ d.currencies → Err (refusal Full) ≡ enters d table x.code x.fx
  full i g n = grind (arith, common_steps, inside, missing i g, n)

  pub room : (i : ℕ) → Gap currency_code (entries d table) x.code i → d.currencies < most table → Ok tt ≡ enters d table x.code x.fx
  room i g n = grind (arith, common_steps, inside, missing i g, n)

  pub put_in : (i : ℕ) (d' : Draft) (table' : List Currency) → Gap currency_code (entries d table) x.code i → d'.currencies ≡ d.currencies + 1 → d.currencies < most table → length table' ≡ length table →
      take (d.currencies + 1) table' ≡ insert (entries d table) i x → drop (d.currencies + 1) table' ≡ drop (d.currencies + 1) table →
      EnteredIn d table x.code x.fx d' table'
  put_in i d' table' g n l same now rest =
      let e : entries d' table' ≡ insert (entries d table) i x = ap (λ (k : ℕ). take k table') n ∙ now in
      record {
        count = n;
        in_order = record { within = omega arith; few = omega arith; rising = subst (Rising currency_code) (sym e) (rising_inserted currency_code (entries d table) i x o.rising g) };
        entries = e ∙ inserted_is currency_code (entries d table) i x g;
        free = ap (λ (k : ℕ). drop k table') n ∙ rest ∙ sym (ap (λ (k : ℕ). drop k table) n);
      }
