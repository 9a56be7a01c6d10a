-- The answer to each call: the first check that fails gives it.
use Rattle.std.specs.Prelude.{ℕ, Bool, true, false, cond, not, ◌&&◌, ◌||◌, List, [], ◌∷◌, ℤ, pos, ◌+ℤ◌, neg_ℤ, is_some, Ok, Err, Result, ◌==◌, nat_le}
use Rattle.book.specs.Checks.{check, first_of}
use Rattle.book.specs.Ranges.{no_portfolio, no_currency, no_amount}
use Rattle.margin.specs.declared.Currency.{Currency}
use Rattle.margin.specs.declared.Figures.{Figures}
use Rattle.margin.specs.Sheets.{currency_at}
use Rattle.margin.specs.Holdings.{Holding}
use Rattle.margin.specs.Figures.{figures_of}
use Rattle.margin.specs.Limits.{over_gross, worsens}
use Rattle.margin.specs.Cash.{cash_holding}
use Rattle.sheet.specs.declared.drafts.ClosedSheet.{ClosedSheet}
use Rattle.sheet.specs.declared.faults.SheetCause.TheVariants.{Unfit}
use Rattle.sheet.specs.Faults as sheets
use Rattle.sheet.specs.Drafts.{closed_entries}
use Rattle.register.specs.declared.faults.RegisterCause.TheVariants.{NoPortfolio, PortfolioExists, CodeMissing, NoPlace, Gross, WorstCase}
use Rattle.register.specs.declared.faults.RegisterFault.{RegisterFault}
use Rattle.register.specs.declared.faults.RegisterFault.TheVariants.{Sheet as InSheet}
use Rattle.register.specs.declared.state.Register.{Register}
use Rattle.register.specs.Faults.{out_of_range, refusal}
use Rattle.register.specs.State.{currencies, in_force, is_open, cash, holding, open_count, places}

-- whether it is refused, of a result with a value
abbrev pub without_value : {X : Type 0} → Result X RegisterFault → Result (Unit {0}) RegisterFault
without_value (Ok x) = Ok tt
without_value (Err f) = Err f

abbrev pub opens : Register → ℕ → Result (Unit {0}) RegisterFault
opens r p =
    first_of (
    check (no_portfolio p) out_of_range
    ∷ check (is_open r p) (refusal PortfolioExists)
    ∷ check (nat_le (places r) (open_count r)) (refusal NoPlace)
    ∷ []) tt

-- cash with z more in currency c
abbrev pub paid : (ℕ → ℤ) → ℕ → ℤ → ℕ → ℤ
paid cash c z k = cash k +ℤ cond (k == c) z (pos 0)

-- what portfolio p would hold with z more in currency c
abbrev pub with_paid : Register → ℕ → ℕ → ℤ → Holding
with_paid r p c z = cash_holding (paid (cash r p) c z)

abbrev pub missing : Register → ℕ → Bool
missing r c = not (is_some (currency_at (in_force r) c))

-- numbers one by one, as the rules' calls have them
abbrev pub pays_in : Register → ℕ → ℕ → ℕ → Result (Unit {0}) RegisterFault
pays_in r p c x =
    first_of (
    check (no_portfolio p || no_currency c || no_amount x) out_of_range
    ∷ check (not (is_open r p)) (refusal NoPortfolio)
    ∷ check (missing r c) (refusal CodeMissing)
    ∷ check (over_gross (in_force r) (with_paid r p c (pos x))) (refusal Gross)
    ∷ []) tt

abbrev pub pays_out : Register → ℕ → ℕ → ℕ → Result (Unit {0}) RegisterFault
pays_out r p c x =
    first_of (
    check (no_portfolio p || no_currency c || no_amount x) out_of_range
    ∷ check (not (is_open r p)) (refusal NoPortfolio)
    ∷ check (missing r c) (refusal CodeMissing)
    ∷ check (over_gross (in_force r) (with_paid r p c (neg_ℤ (pos x)))) (refusal Gross)
    ∷ check (worsens (in_force r) (holding r p) (with_paid r p c (neg_ℤ (pos x)))) (refusal WorstCase)
    ∷ []) tt

abbrev pub tells : Register → ℕ → Result Figures RegisterFault
tells r p =
    first_of (
    check (no_portfolio p) out_of_range
    ∷ check (not (is_open r p)) (refusal NoPortfolio)
    ∷ []) (figures_of (in_force r) (holding r p))

-- the same codes in the same order, which is that of the codes
abbrev pub same_codes : List Currency → List Currency → Bool
same_codes [] [] = true
same_codes [] (d ∷ ds) = false
same_codes (c ∷ cs) [] = false
same_codes (c ∷ cs) (d ∷ ds) = c.code == d.code && same_codes cs ds

-- a sheet with other currencies comes back
abbrev pub puts : Register → ClosedSheet → List Currency → Result (Unit {0}) (RegisterFault × ClosedSheet)
puts r c table = cond (same_codes (currencies r) (closed_entries c table)) (Ok tt) (Err (InSheet (sheets.refusal Unfit), c))
