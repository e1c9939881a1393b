-- The four products of two sizes' digits in base 2 ^ 24 have 48 bits.
use Prim.Native.Nat.{ℕ, ◌*◌, ◌/◌, ◌%◌, ◌^◌, ◌<◌}
use native.Mathlib.Omega.{arith}
use Rattle.floating_product.specs.Laws.Columns.{product-bits}

pub record Digits (a b : ℕ) : Type 0 where
  pub low-low : a % 2 ^ 24 * (b % 2 ^ 24) < 2 ^ 48
  pub high-low : a / 2 ^ 24 * (b % 2 ^ 24) < 2 ^ 48
  pub low-high : a % 2 ^ 24 * (b / 2 ^ 24) < 2 ^ 48
  pub high-high : a / 2 ^ 24 * (b / 2 ^ 24) < 2 ^ 48

pub digits : (a b : ℕ) → a < 2 ^ 48 → b < 2 ^ 48 → Digits a b
digits a b ha hb =
    record {
      low-low = product-bits 24 (omega arith) (omega arith);
      high-low = product-bits 24 (omega arith) (omega arith);
      low-high = product-bits 24 (omega arith) (omega arith);
      high-high = product-bits 24 (omega arith) (omega arith);
    }
