-- `word_fields::fields::from_parts` meets its contract.
use Prim.Native.Nat.{◌+◌, ◌*◌, ◌^◌}
use native.Mathlib.Omega.{arith}
use lib.Dec.{lit≤}
use lib.Pow.{shl_exact}
use Rattle.word_arithmetic.proofs.Machine.{or-low, or-shifted-left}
use Rattle.word_fields.proofs.fields.from_parts.Goals as goal

pub returns : goal.returns
returns c =
    let x = c.args in
    let h = c.requires in
    let above₁ = x.a * 2 ^ 48 in
    let above₂ = above₁ + x.b * 2 ^ 36 in
    let above₃ = above₂ + x.c * 2 ^ 24 in
    rw (
      shl_exact {a = x.a} 12 48 64 h.0 (lit≤ tt),
      or-shifted-left 64 12 36 above₁ x.b (omega arith) h.1 (lit≤ tt),
      or-shifted-left 64 12 24 above₂ x.c (omega arith) h.2 (lit≤ tt),
      or-shifted-left 64 12 12 above₃ x.d (omega arith) h.3 (lit≤ tt),
      or-low 12 (above₃ + x.d * 2 ^ 12) x.e (omega arith) h.4,
    )
