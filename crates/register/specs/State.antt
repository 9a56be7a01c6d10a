-- What a register holds.
use Rattle.std.specs.Prelude.{◌≡◌, ℕ, ◌+◌, Bool, false, cond, ◌&&◌, ◌||◌, List, length, ℤ, pos, ◌+ℤ◌, is_some, Some, None, vec_items, Option, ◌==◌}
use Rattle.keyed.specs.Tables as tables
use Rattle.margin.specs.declared.Currency.{Currency}
use Rattle.margin.specs.Sheets.{Sheet}
use Rattle.margin.specs.Holdings.{Holding}
use Rattle.margin.specs.Cash.{cash_sheet, cash_by, cash_holding}
use Rattle.register.specs.Keys.{portfolio_number}
use Rattle.register.specs.declared.records.Portfolio.{Portfolio}
use Rattle.register.specs.declared.state.Register.{Register}

abbrev pub currencies : Register → List Currency
currencies r = vec_items r.currencies

-- the sheet in force
abbrev pub in_force : Register → Sheet
in_force r = cash_sheet (currencies r)

-- the record of a portfolio
abbrev pub portfolio : Register → ℕ → Option Portfolio
portfolio r j = tables.holds portfolio_number r.portfolios j

abbrev pub is_open : Register → ℕ → Bool
is_open r j = is_some (portfolio r j)

abbrev pub cash_in : List Currency → Option Portfolio → ℕ → ℤ
cash_in cs None k = pos 0
cash_in cs (Some x) k = cash_by cs x.cash k

-- the cash of portfolio j in currency k; a portfolio that is not open has none
abbrev pub cash : Register → ℕ → ℕ → ℤ
cash r j k = cash_in (currencies r) (portfolio r j) k

-- what a portfolio holds
abbrev pub holding : Register → ℕ → Holding
holding r j = cash_holding (cash r j)

-- how many portfolios are open, and how many there is room for
abbrev pub open_count : Register → ℕ
open_count r = length (tables.entries r.portfolios)

abbrev pub places : Register → ℕ
places r = tables.room r.portfolios

-- ---- what a call leaves
-- every table is as it was
pub record Unchanged (r t : Register) : Type 0 where
  pub currencies : t.currencies ≡ r.currencies
  pub portfolios : t.portfolios ≡ r.portfolios

-- portfolio p is open, and nothing else has changed
pub record Opens (r : Register) (p : ℕ) (t : Register) : Type 0 where
  pub sheet : in_force t ≡ in_force r
  pub «open» : (j : ℕ) → is_open t j ≡ (j == p || is_open r j)
  pub cash : (j k : ℕ) → cash t j k ≡ cash r j k
  pub count : open_count t ≡ open_count r + 1
  pub places : places t ≡ places r

-- portfolio p has z more in currency c, and nothing else has changed
pub record Pays (r : Register) (p c : ℕ) (z : ℤ) (t : Register) : Type 0 where
  pub sheet : in_force t ≡ in_force r
  pub «open» : (j : ℕ) → is_open t j ≡ is_open r j
  pub cash : (j k : ℕ) → cash t j k ≡ cash r j k +ℤ cond (j == p && k == c) z (pos 0)
  pub count : open_count t ≡ open_count r
  pub places : places t ≡ places r

-- another sheet is in force, and nothing else has changed
pub record Puts (r : Register) (s : Sheet) (t : Register) : Type 0 where
  pub sheet : in_force t ≡ s
  pub «open» : (j : ℕ) → is_open t j ≡ is_open r j
  pub cash : (j k : ℕ) → cash t j k ≡ cash r j k
  pub count : open_count t ≡ open_count r
  pub places : places t ≡ places r

-- a sheet is in force, and no portfolio is open
pub record Begins (s : Sheet) (n : ℕ) (t : Register) : Type 0 where
  pub sheet : in_force t ≡ s
  pub «open» : (j : ℕ) → is_open t j ≡ false
  pub count : open_count t ≡ 0
  pub places : places t ≡ n
