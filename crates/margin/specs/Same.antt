-- The order in which a portfolio's lines and orders are listed.
use Rattle.std.specs.Prelude.{◌≡◌, ℕ}
use Rattle.keyed.specs.Reordered.{Reordered}
use Rattle.margin.specs.Sheets.{Sheet}
use Rattle.margin.specs.Holdings.{Holding, lined}
use Rattle.margin.specs.Figures.{figures_of}
use Rattle.margin.specs.Limits.{over_gross, cover}

-- two holdings that differ at most in the order in which lines and orders are listed
pub record SameHolding (h k : Holding) : Type 0 where
  pub cash : (c : ℕ) → h.cash c ≡ k.cash c
  pub planned : (code : ℕ) → h.planned code ≡ k.planned code
  pub lined : (code : ℕ) → lined h code ≡ lined k code
  pub orders : Reordered h.orders k.orders

-- on any sheet, closed or not
pub record OrderOfListingChangesNoFigure : Type 0 where
  pub figures : (s : Sheet) (h k : Holding) → SameHolding h k → figures_of s h ≡ figures_of s k
  pub over : (s : Sheet) (h k : Holding) → SameHolding h k → over_gross s h ≡ over_gross s k
  pub cover : (h k : Holding) → SameHolding h k → (code : ℕ) → cover h code ≡ cover k code
