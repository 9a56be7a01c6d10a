-- The same records in another order.
use Rattle.std.specs.Prelude.{List, [], ◌∷◌}

pub data Reordered {X : Type 0} : List X → List X → Type 0 where
  nothing : Reordered [] []
  keeping : (x : X) {xs ys : List X} → Reordered xs ys → Reordered (x ∷ xs) (x ∷ ys)
  swapping : (x y : X) (xs : List X) → Reordered (x ∷ (y ∷ xs)) (y ∷ (x ∷ xs))
  again : {xs ys zs : List X} → Reordered xs ys → Reordered ys zs → Reordered xs zs
