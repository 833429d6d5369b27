-- Powers of two below and from the number of failures at which the delay stops to grow.
use Rattle.std.proofs.Common.{ℕ, ◌≤◌, ◌<◌, ◌^◌, arith}
use Rattle.std.proofs.Math.Pow.{pow_mono}

-- For delay_after: two to the power of fewer than 18 failures is at most 131072.
pub small_power : (f : ℕ) → f < 18 → 2 ^ f ≤ 131072
small_power f lt = let le : f ≤ 17 = omega arith in pow_mono le

-- For delay_after: two to the power of 18 failures or more is at least 262144.
pub great_power : (f : ℕ) → 18 ≤ f → 262144 ≤ 2 ^ f
great_power f le = pow_mono le
