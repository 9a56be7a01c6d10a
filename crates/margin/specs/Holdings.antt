-- What a portfolio holds, and what it is worth: net and value at the sheet's prices, equity and first ratio at risk.
use Rattle.std.specs.Prelude.{◌≡◌, ℕ, Bool, true, false, cond, ◌&&◌, ◌⊎◌, List, ◌∷◌, ℤ, pos, ◌+ℤ◌, ◌*ℤ◌, filter, ◌==◌, nat_eq}
use Rattle.margin.specs.declared.Currency.{Currency}
use Rattle.margin.specs.declared.Instrument.{Instrument}
use Rattle.margin.specs.declared.Order.{Order}
use Rattle.margin.specs.declared.Piece.{Piece}
use Rattle.margin.specs.Numbers.{down, total, least, any, below}
use Rattle.margin.specs.Sheets.{Sheet, rouble, off_list}
use Rattle.margin.specs.Orders.{on}

-- one portfolio: cash by currency, planned quantity by code, the codes in which it has a line, its standing orders
pub record Holding : Type 0 where
  pub cash : ℕ → ℤ
  pub planned : ℕ → ℤ
  pub lines : List ℕ
  pub orders : List Order

-- it has a line in this code
abbrev pub lined : Holding → ℕ → Bool
lined h code = any (nat_eq code) h.lines

-- nothing planned and no order in this code
abbrev pub Idle : Holding → ℕ → Type 0
Idle h code = (h.planned code ≡ pos 0) × (any (on code) h.orders ≡ false)

-- every code with a position or an order has a line
abbrev pub Lined : Holding → Type 0
Lined h = (code : ℕ) → (lined h code ≡ true) ⊎ Idle h code

-- the worth of q units at a price: the least over the pieces
abbrev pub worth : List Piece → ℕ → ℤ → ℤ
worth ps price q = least (λ p. down (pos price *ℤ (pos p.weight *ℤ q +ℤ pos p.allowance)) 10000) ps

module _ (s : Sheet) where
  -- off the liquid list a piece that counts nothing joins the code's own
  abbrev pub pieces_of : Instrument → List Piece
  pieces_of i = cond (off_list i.kind) (record { weight = 0; allowance = 0 } ∷ s.pieces i.code) (s.pieces i.code)

  -- and a long position counts for nothing
  abbrev pub counted : Instrument → ℤ → ℤ
  counted i q = cond (off_list i.kind && below (pos 0) q) (pos 0) q

  -- the instruments of a currency in which the portfolio has a line
  abbrev pub held : Holding → ℕ → List Instrument
  held h c = filter (λ i. (c == i.currency) && lined h i.code) s.instruments

  -- cash plus the counted quantities at the sheet's prices
  abbrev pub net : Holding → ℕ → ℤ
  net h c = h.cash c +ℤ total (λ i. counted i (h.planned i.code) *ℤ pos i.price) (held h c)

  -- cash plus a value v of each line
  abbrev pub equity : (Instrument → ℤ) → Holding → ℕ → ℤ
  equity v h c = h.cash c +ℤ total v (held h c)

  -- an amount of a currency under that currency's own pieces; the rouble has none
  abbrev pub shocked : ℕ → ℤ → ℤ
  shocked c e = cond (c == rouble) e (worth (s.pieces c) 1 e)

  abbrev pub in_roubles : Currency → ℤ → ℤ
  in_roubles c z = down (z *ℤ pos c.fx) 10000

  -- the value: all net in roubles
  abbrev pub value_of : Holding → ℤ
  value_of h = total (λ c. in_roubles c (net h c.code)) s.currencies

  -- all shocked equity in roubles, by a value v of each line
  abbrev pub ratio : (Instrument → ℤ) → Holding → ℤ
  ratio v h = total (λ c. in_roubles c (shocked c.code (equity v h c.code))) s.currencies

  -- the first ratio: each line at its worth
  abbrev pub first_ratio : Holding → ℤ
  first_ratio h = ratio (λ i. worth (pieces_of i) i.price (h.planned i.code)) h
