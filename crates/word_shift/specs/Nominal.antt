-- 22 and 23: shifts of Xk by Bj places, by document 01 and request (e) of document 02. `left` is the direction that the code names: 22
-- nominally left, 23 nominally right.
use Rattle.std.specs.Prelude.{ℕ, Bool, not, ◌&&◌, cond, ltb}
use Rattle.word_arithmetic.specs.Bits.{low, negative}
use Rattle.word_arithmetic.specs.Sums.{magnitude}
use Rattle.word_shift.specs.Shifts.{rotate_left, shift_right_signed}

-- a negative Bj "also turns the direction"
unfoldable pub goes_left : Bool → ℕ → Bool
goes_left left b = cond (negative 18 b) (not left) left

-- "where the direction is right and the magnitude of Bj exceeds 63"
abbrev pub is_long_right : Bool → ℕ → Bool
is_long_right left k = not left && ltb 63 k

-- x by k places. In that case "the result is +0". In all others 22 and 23 "use the low six bits": "leftward shifts keep the low six bits", in a
-- circle; to the right the sign is extended
unfoldable pub shifted_by : Bool → ℕ → ℕ → ℕ
shifted_by left k x = cond (is_long_right left k) 0 (cond left (rotate_left 60 x (low 6 k)) (shift_right_signed 60 x (low 6 k)))

-- x by Bj: in the direction as Bj turns it, by "the magnitude of Bj"
unfoldable pub nominal : Bool → ℕ → ℕ → ℕ
nominal left b x = shifted_by (goes_left left b) (magnitude 18 b) x
