-- The move to the left in a u64, over plain values.
use mathlib.Core.Path.{◌≡◌, ap, ap₂, ◌∙◌}
use Prim.Native.Nat.{ℕ, ◌*◌, ◌%◌, ◌^◌, ◌<◌}
use native.Mathlib.Nat.{mod-eq_of_lt}
use native.Mathlib.Omega.{arith}
use Rattle.floating_word.specs.Number.{word_of}
use Rattle.floating_word.specs.Widths.{NumberFits}
use Rattle.floating_normalize.specs.Normalized.{left_places, normal_of}
use Rattle.floating_normalize.specs.Laws.Places.{moved-left-lt}
use Rattle.floating_word.specs.declared.number.Number.{Number}
use Rattle.floating_normalize.specs.declared.normalize.Normal.{Normal}

abbrev normal : ℕ → ℕ → Normal
normal word count = record { word = word; count = count }

-- no bit leaves the u64
module _ (x : Number) (f : NumberFits x) (n : ℕ) (e : n ≡ left_places x.size) where
  pub shifted-exact : x.size * 2 ^ n % 2 ^ 64 ≡ x.size * 2 ^ left_places x.size
  shifted-exact =
      ap (λ (k : ℕ). x.size * 2 ^ k % 2 ^ 64) e ∙ mod-eq_of_lt (omega (arith, moved-left-lt x.size f.size-lt))

  pub shifted-lt : x.size * 2 ^ n % 2 ^ 64 < 2 ^ 48
  shifted-lt = omega (arith, shifted-exact, moved-left-lt x.size f.size-lt)

  pub normal-is : (w : ℕ) → w ≡ word_of x.minus x.biased n (x.size * 2 ^ n % 2 ^ 64) → normal w n ≡ normal_of x
  unfolding normal_of
  normal-is w p = ap₂ normal (p ∙ ap₂ (word_of x.minus x.biased) e shifted-exact) e
