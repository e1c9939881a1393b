-- What shifts of a u64 come to for halves of 48 bits.
use mathlib.Core.Path.{◌≡◌, sym, ap, ap₂, ◌∙◌}
use Prim.Native.Nat.{ℕ, ◌-◌, ◌*◌, ◌/◌, ◌%◌, ◌^◌, ◌≤◌, ◌<◌}
use native.Mathlib.Omega.{arith}
use lib.Pow.{mod-mod-pow}
use Rattle.floating_word.specs.Halves.{halves, halves_of}
use Rattle.floating_sum.specs.Sums.{placed}
use Rattle.floating_sum.specs.Laws.Placed.{placed-near, placed-high}

-- a size moved right by less than 48 places
pub near-halves : (size p : ℕ) → p < 48 → halves (size / 2 ^ p) (size * 2 ^ (48 - p) % 2 ^ 64 % 2 ^ 48) ≡ halves_of (placed size p)
near-halves size p h =
    let l : p ≤ 48 = omega arith in
    ap₂ halves (sym (placed-high size p))
    (mod-mod-pow (size * 2 ^ (48 - p)) 16 48 ∙ ap (λ (x : ℕ). x % 2 ^ 48) (sym (placed-near size p l)))
