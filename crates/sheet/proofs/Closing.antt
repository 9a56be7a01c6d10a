-- The answer to a closing by what the entries are.
use Rattle.std.proofs.Common.{◌≡◌, ℕ, min, true, false, List, length, take, Ok, Err, sym, ap, ◌∙◌, subst, arith}
use Rattle.std.proofs.lemmas.Grind.{common_steps}
use Rattle.std.proofs.lemmas.List.{length-take}
use Rattle.keyed.specs.Rows.{Rising}
use Rattle.margin.specs.declared.Currency.{Currency}
use Rattle.margin.specs.Cash.{cash_sheet}
use Rattle.margin.specs.Keys.{currency_code}
use Rattle.sheet.specs.declared.drafts.Draft.{Draft}
use Rattle.sheet.specs.declared.faults.SheetCause.TheVariants.{Incomplete}
use Rattle.sheet.specs.declared.faults.SheetFault.{SheetFault}
use Rattle.sheet.specs.Faults.{refusal}
use Rattle.sheet.specs.Drafts.{entries, InOrder, incomplete, draft_sheet, closes, AsClosed}

module _ (d : Draft) (table xs : List Currency) (are : xs ≡ entries d table) where
  same : incomplete (cash_sheet xs) ≡ incomplete (draft_sheet d table)
  same = ap (λ (cs : List Currency). incomplete (cash_sheet cs)) are

  few : length xs ≡ min d.currencies (length table)
  few = ap length are ∙ length-take d.currencies table

  pub refused : (f : SheetFault) → true ≡ incomplete (cash_sheet xs) → f ≡ refusal Incomplete → Err (f, d) ≡ closes d table
  refused f t e = grind (arith, common_steps, same, t, e)

  pub closed : false ≡ incomplete (cash_sheet xs) → Ok (record { currencies = length xs }) ≡ closes d table
  closed t = grind (arith, common_steps, same, t, few)

  pub as_closed : false ≡ incomplete (cash_sheet xs) → InOrder d table → (length xs ≡ d.currencies) × AsClosed (record { currencies = length xs }) table
  as_closed t o =
      let e : length xs ≡ d.currencies = omega (arith, o.within, few) in
      let all : take (length xs) table ≡ entries d table = ap (λ (k : ℕ). take k table) e in (
        e,
        record {
          within = omega (arith, o.within, few);
          few = omega (arith, o.few, few);
          rising = subst (Rising currency_code) (sym all) o.rising;
          complete = grind (arith, common_steps, same, t, all);
        },
      )
