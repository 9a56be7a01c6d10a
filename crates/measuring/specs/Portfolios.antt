-- The figures of a portfolio that C's records say: none where a number is out of its range.
use Rattle.std.specs.Prelude.{◌≡◌, ℕ, suc, Bool, cond, not, ◌&&◌, List, [], ◌∷◌, map, length, is_some, ℤ, pos, Some, None, Option, nat_eq}
use Rattle.std.specs.Option.{unwrap_or}
use Rattle.margin.specs.declared.Currency.{Currency}
use Rattle.margin.specs.declared.Figures.{Figures}
use Rattle.margin.specs.Cash.{cash_by}
use Rattle.margin.specs.Sheets.{Sheet, rouble}
use Rattle.margin.specs.Holdings.{Holding}
use Rattle.margin.specs.Figures.{figures_of}
use Rattle.sources.specs.Entering.{Said}
use Rattle.measuring.specs.declared.units.Units.{Units}
use Rattle.measuring.specs.declared.requests.Request.{Request}
use Rattle.measuring.specs.declared.portfolio.Cash.{Cash}
use Rattle.measuring.specs.declared.portfolio.Told.{Told}
use Rattle.measuring.specs.Numbers.{number}
use Rattle.measuring.specs.Requests.{order_of}
use Rattle.measuring.specs.Placed.{instruments_from, eight_within}

-- roubles at par, and dollars
abbrev pub currencies_of : Cash → List Currency
currencies_of c = record { code = rouble; fx = 10000 } ∷ record { code = 840; fx = c.fx } ∷ []

-- every code has the same pieces; the rouble's are never read
abbrev pub sheet_of : Said → Cash → List Units → Sheet
sheet_of r c us = record { currencies = currencies_of c; instruments = instruments_from 1000 us; pieces = λ _. r.pieces }

-- what is planned in a code, where the first place's is n
abbrev pub planned_from : ℕ → List Units → ℕ → ℤ
planned_from n [] code = pos 0
planned_from n (u ∷ us) code = cond (nat_eq code n) u.planned (planned_from (suc n) us code)

abbrev pub codes_from : ℕ → List Units → List ℕ
codes_from n [] = []
codes_from n (u ∷ us) = n ∷ codes_from (suc n) us

abbrev pub holding_of : Cash → List Units → List Request → Holding
holding_of c us rs = record { cash = cash_by (currencies_of c) (c.roubles ∷ c.dollars ∷ []); planned = planned_from 1000 us; lines = codes_from 1000 us; orders = map order_of rs }

abbrev pub figures_under : Said → Cash → List Units → List Request → Option Figures
figures_under r c us rs = cond (not r.outside && eight_within us && nat_eq (length rs) 4) (Some (figures_of (sheet_of r c us) (holding_of c us rs))) None

abbrev pub noughts : Figures
noughts = record { value = pos 0; initial = pos 0; minimum = pos 0; first = pos 0; second = pos 0; worst = pos 0 }

-- a flag and six figures, in halves
pub record InHalves (there : Bool) (f : Figures) (t : Told) : Type 0 where
  pub known : t.known ≡ there
  pub value : number t.value ≡ f.value
  pub initial : number t.initial ≡ f.initial
  pub minimum : number t.minimum ≡ f.minimum
  pub first : number t.first ≡ f.first
  pub second : number t.second ≡ f.second
  pub worst : number t.worst ≡ f.worst

-- whether there are figures, and the figures, all 0 where there are none
abbrev pub Tells : Option Figures → Told → Type 0
Tells o t = InHalves (is_some o) (unwrap_or o noughts) t
