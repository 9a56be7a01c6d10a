-- That keys are apart is a fact, so that a ghost field may keep it.
use Rattle.std.specs.Prelude.{ℕ, List, [], ◌∷◌}
use Rattle.std.specs.Coded.{×_prop, Unit-prop}
use mathlib.Core.Bool.{Bool-set}
use Rattle.std.specs.List.{AllByRecursion-prop}
use Rattle.margin.specs.Sheets.{Apart}

pub Apart-prop : {X : Type 0} (key : X → ℕ) (xs : List X) → IsProp (Apart key xs)
Apart-prop key [] = Unit-prop
Apart-prop key (x ∷ xs) = ×_prop (AllByRecursion-prop _ (λ y. Bool-set _ _) xs) (Apart-prop key xs)
