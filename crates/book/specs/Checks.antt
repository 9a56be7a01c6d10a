-- The first check that fails gives the answer.
use Rattle.std.specs.Prelude.{Bool, cond, List, [], ◌∷◌, Ok, Err, Result}

-- a check, and the fault that it gives where it fails
pub record Check (F : Type 0) : Type 0 where
  pub fails : Bool
  pub fault : F

abbrev pub check : {F : Type 0} → Bool → F → Check F
check b f = record { fails = b; fault = f }

abbrev pub first_of : {X F : Type 0} → List (Check F) → X → Result X F
first_of [] x = Ok x
first_of (c ∷ cs) x = cond c.fails (Err c.fault) (first_of cs x)
