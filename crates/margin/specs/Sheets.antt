-- A sheet of prices and rates, and the rules of the pieces that a source of rates gives.
use Rattle.std.specs.Prelude.{◌≡◌, ℕ, ◌*◌, ◌≤◌, Bool, true, false, ◌&&◌, ◌||◌, List, [], ◌∷◌, length, is_some, Some, Option, ◌==◌, nat_eq, nat_le, nat_lt}
use Rattle.std.specs.List.{AllByRecursion}
use Rattle.margin.specs.declared.Currency.{Currency}
use Rattle.margin.specs.declared.Instrument.{Instrument}
use Rattle.margin.specs.declared.Kind.{Kind}
use Rattle.margin.specs.declared.Kind.TheVariants.{OffList, Listed, Shortable}
use Rattle.margin.specs.declared.Piece.{Piece}
use Rattle.margin.specs.Numbers.{the_first, any}

-- `pieces` is what the sheet's source of rates gives: none of a code that it does not know
pub record Sheet : Type 0 where
  pub currencies : List Currency
  pub instruments : List Instrument
  pub pieces : ℕ → List Piece

abbrev pub rouble : ℕ
rouble = 643

abbrev pub off_list : Kind → Bool
off_list OffList = true
off_list Listed = false
off_list Shortable = false

abbrev pub shortable : Kind → Bool
shortable OffList = false
shortable Listed = false
shortable Shortable = true

abbrev pub currency_at : Sheet → ℕ → Option Currency
currency_at s c = the_first (λ x. nat_eq c x.code) s.currencies

abbrev pub instrument_at : Sheet → ℕ → Option Instrument
instrument_at s c = the_first (λ x. nat_eq c x.code) s.instruments

-- the code is priced in this currency
abbrev pub priced_in : Sheet → ℕ → ℕ → Bool
priced_in s code c = any (λ i. (code == i.code) && c == i.currency) s.instruments

-- what every source of rates shows of the pieces of a code that it knows
pub record KeepsTheRules (ps : List Piece) : Type 0 where
  pub two_or_more : 2 ≤ length ps
  pub six_at_most : length ps ≤ 6
  pub weights : AllByRecursion (λ p. p.weight ≤ 20000) ps
  pub allowances : AllByRecursion (λ p. p.allowance ≤ 100000000000000) ps
  pub light : any (λ p. (p.allowance == 0) && nat_le p.weight 10000) ps ≡ true
  pub heavy : any (λ p. (p.allowance == 0) && nat_le 10000 p.weight) ps ≡ true

-- a code without pieces is unknown to the source
abbrev pub known : Sheet → ℕ → Bool
known s c = nat_lt 0 (length (s.pieces c))

-- no two of a list have the same key
abbrev pub Apart : {X : Type 0} → (X → ℕ) → List X → Type 0
Apart key [] = Unit {0}
Apart key (x ∷ xs) = AllByRecursion (λ y. (key x == key y) ≡ false) xs × Apart key xs

-- what closing has shown of a sheet
pub record Closed (s : Sheet) : Type 0 where
  pub currencies_apart : Apart (λ c. c.code) s.currencies
  pub instruments_apart : Apart (λ i. i.code) s.instruments
  pub rouble_at_par : the_first (λ x. (rouble == x.code) && 10000 == x.fx) s.currencies ≡ Some record { code = rouble; fx = 10000 }
  pub currencies_there : AllByRecursion (λ i. is_some (currency_at s i.currency) ≡ true) s.instruments
  pub currencies_rated : AllByRecursion (λ c. (rouble == c.code || known s c.code) ≡ true) s.currencies
  pub instruments_rated : AllByRecursion (λ i. known s i.code ≡ true) s.instruments
  pub allowances_bounded : AllByRecursion (λ i. AllByRecursion (λ p. i.price * p.allowance ≤ 2000000000000000) (s.pieces i.code)) s.instruments
  pub source_keeps_the_rules : (c : ℕ) → known s c ≡ true → KeepsTheRules (s.pieces c)
