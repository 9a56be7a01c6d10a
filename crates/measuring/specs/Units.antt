-- The instrument and the line that C's record says.
use Rattle.std.specs.Prelude.{◌≡◌, ℕ, Bool, true, false, cond, Some, None, Option, nat_le, unsigned_abs}
use Rattle.margin.specs.declared.Instrument.{Instrument}
use Rattle.margin.specs.declared.Kind.TheVariants.{OffList, Listed}
use Rattle.valuation.specs.declared.line.Line.{Line}
use Rattle.measuring.specs.declared.units.Units.{Units}

abbrev pub instrument_of : ℕ → Units → Instrument
instrument_of code u = record { code = code; currency = u.currency; kind = cond u.off_list OffList Listed; price = u.price }

-- as many as a line may hold or owe
abbrev pub within : Units → Bool
within u = nat_le (unsigned_abs u.planned) 200000000000

abbrev pub IsLine : ℕ → Units → Option Line → Type 0
IsLine code u None = within u ≡ false
IsLine code u (Some l) = (within u ≡ true) × (l.code ≡ code) × (l.planned ≡ u.planned)
