-- The product of two sixteen-bit numbers, as the size of a ring and the first word of a record have it. Assumes nothing.
use Prim.Native.Nat.{ℕ, ◌*◌, ◌≤◌}
use native.Mathlib.Nat.{mul-le-mul}

pub product_small : (a b : ℕ) → a ≤ 65535 → b ≤ 65535 → a * b ≤ 65535 * 65535
product_small a b first second = mul-le-mul first second
