-- Three fields of 18 bits in a machine word.
use mathlib.Core.Path.{◌≡◌}
use Prim.Native.Nat.{ℕ, ◌+◌, ◌*◌, ◌%◌, ◌^◌, ◌<◌}
use native.Mathlib.Omega.{arith}
use lib.Bits.{bit_or}
use lib.Dec.{lit≤}
use lib.Pow.{shl_exact}
use Rattle.word_arithmetic.proofs.Machine.{or-low, or-shifted-left}

pub three-fields : (upper a b : ℕ) → upper < 2 ^ 18 → a < 2 ^ 18 → b < 2 ^ 18
    → bit_or (bit_or (upper * 2 ^ 36 % 2 ^ 64) (a * 2 ^ 18 % 2 ^ 64)) b ≡ upper * 2 ^ 36 + a * 2 ^ 18 + b
three-fields upper a b hu ha hb =
    rw (
      shl_exact {a = upper} 18 36 64 hu (lit≤ tt),
      or-shifted-left 64 18 18 (upper * 2 ^ 36) a (omega arith) ha (lit≤ tt),
      or-low 18 (upper * 2 ^ 36 + a * 2 ^ 18) b (omega arith) hb,
    )
