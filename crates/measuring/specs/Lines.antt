-- The worth and the low of a line whose code has a rate: none where a number is out of its range.
use Rattle.std.specs.Prelude.{ℕ, cond, not, ◌&&◌, List, ℤ, Some, None, Option}
use Rattle.std.specs.Option.{option_map}
use Rattle.book.specs.declared.risk_rates.PostedRate.{PostedRate}
use Rattle.book.specs.declared.risk_rates.SteppedRate.{SteppedRate}
use Rattle.margin.specs.Holdings.{worth, pieces_of}
use Rattle.margin.specs.Fillings.{low}
use Rattle.sources.specs.Entering.{Said}
use Rattle.valuation.specs.Values.{any_sheet, one_line}
use Rattle.measuring.specs.declared.units.Units.{Units}
use Rattle.measuring.specs.declared.requests.Request.{Request}
use Rattle.measuring.specs.Requests.{four_of}
use Rattle.measuring.specs.Units.{instrument_of, within}

abbrev pub posted_rate : ℕ → ℕ → ℕ → PostedRate
posted_rate code plus minus = record { code = code; plus = plus; minus = minus }

abbrev pub stepped_rate : ℕ → ℕ → ℕ → ℕ → ℕ → ℕ → SteppedRate
stepped_rate code s1 s2 s3 k1 k2 = record { code = code; s1 = s1; s2 = s2; s3 = s3; k1 = k1; k2 = k2 }

abbrev pub worth_under : Said → ℕ → Units → Option ℤ
worth_under r code u = cond (not r.outside && within u) (Some (worth (pieces_of (any_sheet (λ _. r.pieces)) (instrument_of code u)) u.price u.planned)) None

-- with four orders
abbrev pub low_under : Said → ℕ → Units → List Request → Option ℤ
low_under r code u rs = cond (not r.outside && within u) (option_map (λ os. low (any_sheet (λ _. r.pieces)) (one_line u.planned os) (instrument_of code u)) (four_of rs)) None
