-- Instruments and lines in the codes from 1,000 on, one after another.
use Rattle.std.specs.Prelude.{◌≡◌, ℕ, suc, Bool, true, false, cond, ◌&&◌, List, [], ◌∷◌, length, Some, None, Option, nat_eq}
use Rattle.margin.specs.declared.Instrument.{Instrument}
use Rattle.valuation.specs.declared.line.Line.{Line}
use Rattle.measuring.specs.declared.units.Units.{Units}
use Rattle.measuring.specs.Units.{instrument_of, within}

abbrev pub instruments_from : ℕ → List Units → List Instrument
instruments_from n [] = []
instruments_from n (u ∷ us) = instrument_of n u ∷ instruments_from (suc n) us

abbrev pub eight_of : List Units → Option (List Instrument)
eight_of us = cond (nat_eq (length us) 8) (Some (instruments_from 1000 us)) None

abbrev pub all_within : List Units → Bool
all_within [] = true
all_within (u ∷ us) = within u && all_within us

-- each line in its code, with its units
abbrev pub LinesFrom : ℕ → List Units → List Line → Type 0
LinesFrom n [] [] = Unit {0}
LinesFrom n [] (l ∷ ls) = ⊥
LinesFrom n (u ∷ us) [] = ⊥
LinesFrom n (u ∷ us) (l ∷ ls) = (l.code ≡ n) × (l.planned ≡ u.planned) × LinesFrom (suc n) us ls

-- eight lines, where each has not too many units
abbrev pub eight_within : List Units → Bool
eight_within us = nat_eq (length us) 8 && all_within us

abbrev pub AreLines : List Units → Option (List Line) → Type 0
AreLines us None = eight_within us ≡ false
AreLines us (Some ls) = (eight_within us ≡ true) × LinesFrom 1000 us ls
