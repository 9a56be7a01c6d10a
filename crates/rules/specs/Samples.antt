-- Sheets, orders and answers to work examples with.
use Rattle.std.specs.Prelude.{ℕ, ◌+◌, ◌-◌, ◌*◌, cond, List, [], ◌∷◌, ℤ, pos, neg_ℤ, ◌==◌}
use Rattle.margin.specs.declared.Currency.{Currency}
use Rattle.margin.specs.declared.Instrument.{Instrument}
use Rattle.margin.specs.declared.Kind.{Kind}
use Rattle.margin.specs.declared.Kind.TheVariants.{Shortable, Listed}
use Rattle.margin.specs.declared.Piece.{Piece}
use Rattle.margin.specs.declared.Side.TheVariants.{Buy, Sell}
use Rattle.margin.specs.Sheets.{Sheet}
use Rattle.rules.specs.Calls.{Call, place, Answer, told, Paper}
use Rattle.rules.specs.Histories.{History, opened_with}

-- the pieces of a posted rate, up and down
abbrev pub posted : ℕ → ℕ → List Piece
posted plus minus = record { weight = 10000 - plus; allowance = 0 } ∷ record { weight = 10000 + minus; allowance = 0 } ∷ []

-- the pieces of three rates with two limits
abbrev pub stepped : ℕ → ℕ → ℕ → ℕ → ℕ → List Piece
stepped s1 s2 s3 k1 k2 =
    let a2 : ℕ = k1 * (s2 - s1) in
    let a3 : ℕ = a2 + k2 * (s3 - s2) in
    record { weight = 10000 - s1; allowance = 0 } ∷ record { weight = 10000 - s2; allowance = a2 } ∷ record { weight = 10000 - s3; allowance = a3 }
    ∷ record { weight = 10000 + s1; allowance = 0 } ∷ record { weight = 10000 + s2; allowance = a2 } ∷ record { weight = 10000 + s3; allowance = a3 } ∷ []

abbrev pub posted_rates : ℕ → List Piece
posted_rates c = cond (c == 840) (posted 1000 1200) (cond (c == 1001) (posted 2000 2500) (cond (c == 1002) (posted 3000 4000) []))

abbrev pub roubles : Currency
roubles = record { code = 643; fx = 10000 }

abbrev pub dollars : Currency
dollars = record { code = 840; fx = 900000 }

abbrev pub instrument : ℕ → ℕ → Kind → ℕ → Instrument
instrument code currency kind price = record { code = code; currency = currency; kind = kind; price = price }

abbrev pub posted_sheet : List Currency → List Instrument → Sheet
posted_sheet cs is = record { currencies = cs; instruments = is; pieces = posted_rates }

-- 1001 at a price, in roubles and open to short sale; 1002 at 5,000, in dollars and closed to it
abbrev pub sheet : ℕ → Sheet
sheet price = posted_sheet (roubles ∷ dollars ∷ []) (instrument 1001 643 Shortable price ∷ instrument 1002 840 Listed 5000 ∷ [])

abbrev pub opened : Sheet → History
opened s = opened_with s record { portfolios = 64; lines = 512; orders = 512; journal = 256 }

abbrev pub buy : (number portfolio code quantity price : ℕ) → Call
buy n p c q x = place record { number = n; portfolio = p; side = Buy; code = c; left = q; price = x }

abbrev pub sell : (number portfolio code quantity price : ℕ) → Call
sell n p c q x = place record { number = n; portfolio = p; side = Sell; code = c; left = q; price = x }

abbrev pub minus : ℕ → ℤ
minus n = neg_ℤ (pos n)

abbrev pub paper : ℕ → ℤ → ℤ → ℤ → Paper
paper p value initial minimum = record { portfolio = p; notice = record { value = value; initial = initial; minimum = minimum } }

abbrev pub tells : ℤ → ℤ → ℤ → ℤ → ℤ → ℤ → Answer
tells value initial minimum first second worst = told record { value = value; initial = initial; minimum = minimum; first = first; second = second; worst = worst }
