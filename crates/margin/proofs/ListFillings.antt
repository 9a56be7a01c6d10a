-- Fillings as functions of orders and as lists of numbers.
use Rattle.std.proofs.Common.{◌≡◌, ℕ, ◌*◌, ◌≤◌, false, cond, eqb, List, [], ◌∷◌, map, ℤ, pos, ◌+ℤ◌, ◌-ℤ◌, refl, ap, ◌∙◌, ap₂}
use Rattle.std.specs.List.{AllByRecursion}
use Rattle.std.proofs.lemmas.Bool.{eq-eqb, cond-true, cond-false}
use Rattle.margin.specs.declared.Order.{Order}
use Rattle.margin.specs.Numbers.{total}
use Rattle.margin.specs.Sheets.{Sheet, Apart}
use Rattle.margin.specs.Orders.{signed, on, counted_price}
use Rattle.margin.specs.Holdings.{Holding, held}
use Rattle.margin.specs.Fillings.{Filling, Allowed, filled, FitsEach, total_each, filled_each}
use Rattle.margin.specs.Facts.{FillingsAreLists}
use Rattle.margin.proofs.Sums.{sum_same}

fits : (os : List Order) (f : Filling) → AllByRecursion (λ o. f o ≤ o.left) os → FitsEach os (map f os)
fits [] f a = tt
fits (o ∷ os) f a = (a.0, fits os f a.1)

total_is : (g : Order → ℕ → ℤ) (f : Filling) (os : List Order) → total (λ o. g o (f o)) os ≡ total_each g os (map f os)
total_is g f [] = refl
total_is g f (o ∷ os) = ap (λ z. g o (f o) +ℤ z) (total_is g f os)

-- what it moves is the same
same : (s : Sheet) (h : Holding) (f : Filling) → filled s f h ≡ filled_each s (map f h.orders) h
same s h f = λ i. record {
  cash = λ c. h.cash c -ℤ sum_same _ _ (λ l. total_is (λ o n. cond (on l.code o) (signed o.side (pos (n * counted_price l.price o))) (pos 0)) f h.orders) (held s h c) i;
  planned = λ code. h.planned code +ℤ total_is (λ o n. cond (on code o) (signed o.side (pos n)) (pos 0)) f h.orders i;
  lines = h.lines;
  orders = h.orders;
}

map_all : {X Y : Type 0} (f g : X → Y) (xs : List X) → AllByRecursion (λ x. f x ≡ g x) xs → map f xs ≡ map g xs
map_all f g [] h = refl
map_all f g (x ∷ xs) h = ap₂ ◌∷◌ h.0 (map_all f g xs h.1)

-- each order is told from the others by its number
found : (os : List Order) → Apart (λ o. o.number) os → (ns : List ℕ) → FitsEach os ns → (f : Filling) × AllByRecursion (λ o. f o ≤ o.left) os × (map f os ≡ ns)
found [] a [] h = ((λ o. 0), tt, refl)
found [] a (n ∷ ns) h = absurd h
found (o ∷ os) a [] h = absurd h
found (o ∷ os) a (n ∷ ns) h = more (found os a.1 ns h.1)
  where
    more : (f : Filling) × AllByRecursion (λ o. f o ≤ o.left) os × (map f os ≡ ns) → (f : Filling) × AllByRecursion (λ o. f o ≤ o.left) (o ∷ os) × (map f (o ∷ os) ≡ n ∷ ns)
    more (f, b, e) = (
      g,
      (here_le, others_le os a.0 b),
      ap₂ ◌∷◌ here (map_all g f os (others os a.0) ∙ e),
    )
      where
        g : Filling
        g r = cond (eqb o.number r.number) n (f r)

        here : g o ≡ n
        here = cond-true (eqb o.number o.number) _ _ (eq-eqb _ _ refl)

        here_le : g o ≤ o.left
        here_le = rw here h.0

        others : (rs : List Order) → AllByRecursion (λ r. eqb o.number r.number ≡ false) rs → AllByRecursion (λ r. g r ≡ f r) rs
        others [] t = tt
        others (r ∷ rs) t = (cond-false (eqb o.number r.number) _ _ t.0, others rs t.1)

        others_le : (rs : List Order) → AllByRecursion (λ r. eqb o.number r.number ≡ false) rs → AllByRecursion (λ r. f r ≤ r.left) rs → AllByRecursion (λ r. g r ≤ r.left) rs
        others_le [] t k = tt
        others_le (r ∷ rs) t k = (rw (cond-false (eqb o.number r.number) n (f r) t.0) k.0, others_le rs t.1 k.1)

each_list : (s : Sheet) (h : Holding) (ns : List ℕ) → Apart (λ o. o.number) h.orders → FitsEach h.orders ns → (f : Filling) × Allowed f h × (filled s f h ≡ filled_each s ns h)
each_list s h ns a b = let (f, k, e) = found h.orders a ns b in (f, k, same s h f ∙ ap (λ ns. filled_each s ns h) e)

pub fillings_are_lists : FillingsAreLists
fillings_are_lists = record {
  each_filling_is_a_list = λ s h f a. (fits h.orders f a, same s h f);
  each_list_is_a_filling = each_list;
}
