-- What a draft and a closed sheet say of the tables that go with them.
use Rattle.std.specs.Prelude.{◌≡◌, ℕ, ◌+◌, ◌≤◌, min, Bool, false, cond, not, ◌&&◌, ◌||◌, List, [], ◌∷◌, length, take, drop, is_some, Ok, Err, Result, ◌==◌, nat_le}
use Rattle.book.specs.Checks.{check, first_of}
use Rattle.book.specs.Ranges.{no_currency, no_fx}
use Rattle.keyed.specs.Rows.{Rising, lookup, with_row}
use Rattle.margin.specs.declared.Currency.{Currency}
use Rattle.margin.specs.Keys.{currency_code}
use Rattle.margin.specs.Numbers.{any}
use Rattle.margin.specs.Sheets.{Sheet, rouble, known}
use Rattle.margin.specs.Cash.{cash_sheet}
use Rattle.sheet.specs.declared.drafts.ClosedSheet.{ClosedSheet}
use Rattle.sheet.specs.declared.drafts.Draft.{Draft}
use Rattle.sheet.specs.declared.faults.SheetCause.TheVariants.{Entered, Full, Incomplete}
use Rattle.sheet.specs.declared.faults.SheetFault.{SheetFault}
use Rattle.sheet.specs.Faults.{out_of_range, refusal}

-- the entries of a draft: the first places of the table that goes with it
abbrev pub entries : Draft → List Currency → List Currency
entries d table = take d.currencies table

-- the table is as the draft's own entering left it
pub record InOrder (d : Draft) (table : List Currency) : Type 0 where
  pub within : d.currencies ≤ length table
  pub few : d.currencies ≤ 8
  pub rising : Rising currency_code (entries d table)

-- ---- entering a currency
-- a sheet has at most 8 currencies, and no more than the table has places
abbrev pub most : List Currency → ℕ
most table = min 8 (length table)

abbrev pub enters : Draft → List Currency → ℕ → ℕ → Result (Unit {0}) SheetFault
enters d table code fx =
    first_of (
    check (no_currency code || no_fx fx) out_of_range
    ∷ check (is_some (lookup currency_code (entries d table) code)) (refusal Entered)
    ∷ check (nat_le (most table) d.currencies) (refusal Full)
    ∷ []) tt

-- the entry is in, in the order of codes; the places after the entries are as they were
pub record EnteredIn (d : Draft) (table : List Currency) (code fx : ℕ) (d' : Draft) (table' : List Currency) : Type 0 where
  pub count : d'.currencies ≡ d.currencies + 1
  pub in_order : InOrder d' table'
  pub entries : entries d' table' ≡ with_row currency_code (entries d table) (record { code = code; fx = fx })
  pub free : drop d'.currencies table' ≡ drop d'.currencies table

-- ---- closing
abbrev pub at_par : Currency → Bool
at_par c = c.code == rouble && c.fx == 10000

abbrev pub has_rouble_at_par : Sheet → Bool
has_rouble_at_par s = any at_par s.currencies

-- a currency other than the rouble without pieces
abbrev pub unrated : Sheet → Currency → Bool
unrated s c = not (c.code == rouble || known s c.code)

abbrev pub has_unrated : Sheet → Bool
has_unrated s = any (unrated s) s.currencies

abbrev pub incomplete : Sheet → Bool
incomplete s = not (has_rouble_at_par s) || has_unrated s

abbrev pub draft_sheet : Draft → List Currency → Sheet
draft_sheet d table = cash_sheet (entries d table)

-- the closed sheet has the draft's entries; a refused draft comes back
abbrev pub closes : Draft → List Currency → Result ClosedSheet (SheetFault × Draft)
closes d table = cond (incomplete (draft_sheet d table)) (Err (refusal Incomplete, d)) (Ok (record { currencies = min d.currencies (length table) }))

-- ---- closed
abbrev pub closed_entries : ClosedSheet → List Currency → List Currency
closed_entries c table = take c.currencies table

-- the table is as closing left it: one that closing accepts, with these numbers
pub record AsClosed (c : ClosedSheet) (table : List Currency) : Type 0 where
  pub within : c.currencies ≤ length table
  pub few : c.currencies ≤ 8
  pub rising : Rising currency_code (closed_entries c table)
  pub complete : incomplete (cash_sheet (closed_entries c table)) ≡ false
