-- The value of a piece in ten-thousandths fits 128 bits.
use Rattle.std.proofs.Common.{ℕ, ◌*◌, ◌^◌, ◌<◌, ◌≤◌, ℤ, pos, ◌+ℤ◌, ◌-ℤ◌, ◌*ℤ◌, nat_abs, le_refl, mul-le-mul, arith, SFits}
use mir.Syntax.{w128}
use borrow.Author.Differences.{ints}
use Rattle.margin.specs.declared.Side.{Side}
use Rattle.margin.specs.declared.Side.TheVariants.{Buy, Sell}
use Rattle.margin.proofs.Sizes.{product_size, size_fits}
use Rattle.valuation.specs.Raw.{unit_loss, reach}

pub unit_loss_small : (s : Side) (a b m : ℕ) → a ≤ m → b ≤ m → unit_loss s a b ≤ m
unit_loss_small Buy a b m h k = omega arith
unit_loss_small Sell a b m h k = omega arith

-- each step of weight × amount + price × allowance − lost fits
pub record Fitting (w a price lost : ℕ) (z : ℤ) : Type 0 where
  pub weighted : SFits w128 (pos w *ℤ z)
  pub gained : SFits w128 (pos (price * a))
  pub sum : SFits w128 (pos w *ℤ z +ℤ pos (price * a))
  pub whole : SFits w128 (pos w *ℤ z +ℤ pos (price * a) -ℤ pos lost)
  pub size : nat_abs (pos w *ℤ z +ℤ pos (price * a) -ℤ pos lost) ≤ reach z

pub fitting : (w a price lost : ℕ) (z : ℤ) → w ≤ 20_000 → a ≤ 100_000_000_000_000 → price < 2 ^ 32 → lost ≤ 2 ^ 92 → nat_abs z ≤ 10 ^ 29 → Fitting w a price lost z
fitting w a price lost z hw ha hp hl hz =
    let h : price ≤ 4_294_967_296 = omega arith in
    let g : price * a ≤ 4_294_967_296 * 100_000_000_000_000 = mul-le-mul h ha in
    let s : nat_abs (pos w *ℤ z) ≤ 20000 * nat_abs z = product_size (pos w) z 20_000 (nat_abs z) hw (le_refl (nat_abs z)) in
    let n : nat_abs (pos w *ℤ z +ℤ pos (price * a) -ℤ pos lost) ≤ reach z = omega (arith, ints) in
    record {
      weighted = size_fits w128 (pos w *ℤ z) (omega arith);
      gained = size_fits w128 (pos (price * a)) (omega arith);
      sum = size_fits w128 (pos w *ℤ z +ℤ pos (price * a)) (omega (arith, ints));
      whole = size_fits w128 (pos w *ℤ z +ℤ pos (price * a) -ℤ pos lost) (omega arith);
      size = n;
    }
