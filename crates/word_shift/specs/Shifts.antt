-- Shifts, masks and counts of values of n bits: 20, 21, 43, 47 and the peripheral SHN.
use Rattle.std.specs.Prelude.{ℕ, ◌+◌, ◌-◌, ◌*◌, ◌/◌, ◌%◌, ◌^◌, cond, ltb}
use Rattle.std.specs.Int.Count.{ones_in}
use Rattle.word_arithmetic.specs.Bits.{negative}

-- left circular shift by k places, of which n bring every bit back. 20 by document 004: "shifts the 60-bit word in operand register i left
-- circular jk places. The shift enters the left-most bits of i in the lower bits of i."
unfoldable pub rotate_left : ℕ → ℕ → ℕ → ℕ
rotate_left n w k = w * 2 ^ (k % n) % 2 ^ n + w * 2 ^ (k % n) / 2 ^ n

-- 43 "sets the top jk bits of Xi, all from 60 up, and clears the others": here k of n bits
unfoldable pub mask : ℕ → ℕ → ℕ
mask n k = 2 ^ n - 2 ^ (n - k)

-- right shift by k places, end off, with zeros from the top
abbrev pub shift_right : ℕ → ℕ → ℕ
shift_right w k = w / 2 ^ k

-- right shift by k places. 21 by document 004: "The right-most bits of i are discarded and the sign bit extended."
unfoldable pub shift_right_signed : ℕ → ℕ → ℕ → ℕ
shift_right_signed n w k = shift_right w k + cond (negative n w) (mask n k) 0

-- SHN (10): "turns A left in a circle for d 00 to 37, else right by 77 - d, end off"
unfoldable pub shift_a : ℕ → ℕ → ℕ
shift_a d a = cond (ltb d 0o40) (rotate_left 18 a d) (shift_right a (0o77 - d))

-- 47 "counts the ones of Xk into Xi": the ones among the n bits of w
abbrev pub count_ones : ℕ → ℕ → ℕ
count_ones n w = ones_in n w
