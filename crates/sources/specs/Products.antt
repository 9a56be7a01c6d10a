-- The bound of a limit times a step.
use Rattle.std.specs.Prelude.{ℕ, ◌*◌, ◌^◌, ◌<◌, ◌≤◌}
use Rattle.std.proofs.Common.{mul-le-mul, arith}

pub limit_by_step : (k s : ℕ) → k < 2 ^ 32 → s ≤ 10000 → k * s ≤ 42949672950000
limit_by_step k s below within =
    let limit : k ≤ 4294967295 = omega arith in
    let most : k * s ≤ 4294967295 * 10000 = mul-le-mul limit within in
    most
