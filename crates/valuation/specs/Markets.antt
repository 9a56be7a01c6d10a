-- The sheet and the holding that a market and a portfolio make.
use Rattle.std.specs.Prelude.{ℕ, List}
use Rattle.margin.specs.declared.Currency.{Currency}
use Rattle.margin.specs.declared.Piece.{Piece}
use Rattle.margin.specs.Cash.{cash_by}
use Rattle.margin.specs.Sheets.{Sheet}
use Rattle.margin.specs.Holdings.{Holding}
use Rattle.valuation.specs.declared.market.Market.{Market}
use Rattle.valuation.specs.declared.portfolio.Portfolio.{Portfolio}
use Rattle.valuation.specs.Holdings.{sheet_of, holding_of}

-- by what the source means
abbrev pub sheet_in : {S : Type 0} → (S → ℕ → List Piece) → Market S → Sheet
sheet_in pieces m = sheet_of (pieces m.source.now) m.currencies.now m.listing.instruments.now

abbrev pub holding_in : List Currency → Portfolio → Holding
holding_in cs p = holding_of (cash_by cs p.cash.now) p.lines.lines.now p.orders.orders.now
