-- What `any` over a slice answers is the rules' own test of the list.
use Rattle.std.proofs.Common.{◌≡◌, Bool, ◌||◌, List, refl}
use Rattle.std.specs.List.{list_any}
use Rattle.std.proofs.lemmas.List.Recursion.{same_from_clauses}
use Rattle.margin.specs.Numbers.{any}

pub any_is : {X : Type 0} (t : X → Bool) (xs : List X) → list_any t xs ≡ any t xs
any_is t xs = same_from_clauses (list_any t) (any t) (λ x b. t x || b) refl (λ x xs. refl) (λ x xs. refl) xs
