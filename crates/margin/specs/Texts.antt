-- Figures as text.
use Rattle.std.specs.Prelude.{ℕ, List, ◌∷◌, ◌++◌, ℤ}
use Rattle.std.specs.Fmt.{signed_decimal}
use Rattle.margin.specs.declared.Figures.{Figures}

-- a number, a space, and more text
abbrev pub spaced : ℤ → List ℕ → List ℕ
spaced z text = signed_decimal z ++ (32 ∷ text)

abbrev pub six_numbers : Figures → List ℕ
six_numbers s = spaced s.value (spaced s.initial (spaced s.minimum (spaced s.first (spaced s.second (signed_decimal s.worst)))))
