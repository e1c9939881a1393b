-- What a shift and a join of a u64 come to where a stored exponent is put above a size.
use mathlib.Core.Path.{◌≡◌, ap, ◌∙◌}
use Prim.Native.Nat.{ℕ, ◌+◌, ◌*◌, ◌%◌, ◌^◌, ◌≤◌, ◌<◌}
use native.Mathlib.Omega.{arith}
use lib.Bits.{bit_or, or_shifted}
use lib.Dec.{lit≤}
use lib.Pow.{shl_exact}
use Rattle.floating_word.specs.Number.{stored_for}
use Rattle.floating_word.specs.Laws.Number.{stored-for-lt}

module _ (biased size stored : ℕ) (hb : biased ≤ 1022 + 1023) (h : size < 2 ^ 48) (e : stored ≡ stored_for biased) where
  pub above-size : bit_or (stored * 2 ^ 48 % 2 ^ 64) size ≡ stored * 2 ^ 48 + size
  above-size =
      ap (λ (x : ℕ). bit_or x size) (shl_exact {a = stored} 11 48 64 (omega (arith, stored-for-lt biased hb)) (lit≤ tt)) ∙ or_shifted stored 48 size h

  pub above-size-lt : bit_or (stored * 2 ^ 48 % 2 ^ 64) size < 2 ^ 60
  above-size-lt = omega (arith, above-size, stored-for-lt biased hb)
