-- How large an integer is: `nat_abs` of a product and of a quotient, and the range of a signed type.
use Rattle.std.proofs.Common.{◌≡◌, ℕ, suc, ◌+◌, ◌*◌, ◌^◌, ◌<◌, ◌≤◌, ℤ, pos, negsuc, ◌*ℤ◌, neg_ℤ, nat_abs, refl, mul-le-mul, arith, SFits}
use mir.Syntax.{Width}
use mir.Val.{hbits}
use borrow.Author.Differences.{ints}
use Rattle.std.specs.Int.{int_div_euclid}
use Rattle.margin.specs.Numbers.{down}

abs_of : (n : ℕ) → nat_abs (neg_ℤ (pos n)) ≡ n
abs_of n = omega (arith, ints)

size_of_product : (a b : ℤ) → nat_abs (a *ℤ b) ≡ nat_abs a * nat_abs b
size_of_product (pos a) (pos b) = refl
size_of_product (pos a) (negsuc b) = abs_of (a * suc b)
size_of_product (negsuc a) (pos b) = abs_of (suc a * b)
size_of_product (negsuc a) (negsuc b) = refl

-- a product of numbers of bounded size
pub product_size : (a b : ℤ) (m n : ℕ) → nat_abs a ≤ m → nat_abs b ≤ n → nat_abs (a *ℤ b) ≤ m * n
product_size a b m n h k = omega (arith, size_of_product a b, mul-le-mul h k)

down_size : (z : ℤ) → 10000 * nat_abs (down z 10000) ≤ nat_abs z + 9999
down_size (pos n) = omega arith
down_size (negsuc n) = omega arith

-- at an exchange rate of 32 bits
pub roubles_size : (z : ℤ) (fx : ℕ) → fx < 2 ^ 32 → (nat_abs (z *ℤ pos fx) ≤ nat_abs z * 4_294_967_295) × (nat_abs (down (z *ℤ pos fx) 10000) ≤ 429_497 * nat_abs z)
roubles_size z fx h =
    let p : nat_abs (z *ℤ pos fx) ≤ nat_abs z * 4_294_967_295 = product_size z (pos fx) (nat_abs z) 4_294_967_295 (omega arith) (omega arith) in
    (p, omega (arith, down_size (z *ℤ pos fx)))

-- a number whose size is below half the type's power fits
pub size_fits : (w : Width) (z : ℤ) → nat_abs z < 2 ^ hbits w → SFits w z
size_fits w z h = omega (arith, ints)

pub euclid_down : (z : ℤ) → int_div_euclid z (pos 10000) ≡ down z 10000
euclid_down (pos n) = refl
euclid_down (negsuc n) = refl
