-- What each code asks for, by rows of the first digit. Operands are read from the registers as they are before the instruction.
use Rattle.std.specs.Prelude.{Bool, true, false, cond, List, [], ◌∷◌, ℕ, ◌+◌, ◌*◌, ◌/◌, ◌%◌, ◌^◌, eqb, get_or}
use Rattle.word_arithmetic.specs.Bits.{low}
use Rattle.word_arithmetic.specs.Sums.{sum, difference, sign_extend}
use Rattle.word_arithmetic.specs.Logic.{logical}
use Rattle.central_condition.specs.Conditions.{word_condition, comparison}
use Rattle.word_shift.specs.Shifts.{rotate_left, mask, shift_right_signed, count_ones}
use Rattle.word_shift.specs.Nominal.{nominal}
use Rattle.word_shift.specs.Floating.{coefficient_of, exponent_of, packed}
use Rattle.base_outcome.specs.declared.stop.CentralStop.TheVariants as Because
use Rattle.central_registers.specs.Registers.{a_of, b_of, x_of}
use Rattle.central_decode.specs.declared.instruction.Instruction.{Instruction}
use Rattle.central_effect.specs.Floating.{normalize_to, floating_sum_to}
use Rattle.central_effect.specs.declared.effect.CentralEffect.{CentralEffect}
use Rattle.central_effect.specs.declared.effect.CentralEffect.TheVariants.{Pass, Stop, Jump, ReturnJump, SetA, SetB, SetX, SetXB}

-- a code of the row that is left out
abbrev pub left_out : CentralEffect
left_out = Stop Because.UnfitCode

abbrev pub jump_if : Bool → ℕ → CentralEffect
jump_if t k = cond t (Jump k) Pass

-- "010 writes 0400, P + 1 (six digits) and ten zeros"
abbrev pub return_word : ℕ → ℕ
return_word p = 0o0400 * 2 ^ 48 + (p + 1) * 2 ^ 30

-- 00 stops; 010; "02: P is Bi + K"; 03 by the condition i of Xj
abbrev pub first_branches : List ℕ → Instruction → ℕ → List CentralEffect
first_branches r q p =
    Stop Because.Halt
    ∷ ReturnJump q.constant (return_word p)
    ∷ Jump (sum 18 (b_of r q.i) q.constant)
    ∷ jump_if (word_condition q.i (x_of r q.j)) q.constant
    ∷ []

-- 00 to 07 in the word at p; "04 to 07 compare Bi and Bj"
unfoldable pub branch_of : List ℕ → Instruction → ℕ → ℕ → CentralEffect
branch_of r q m p =
    get_or (first_branches r q p) m (jump_if (comparison m (b_of r q.i) (b_of r q.j)) q.constant)

-- "26 sends the signed coefficient to Xi, e to Bj"
unfoldable pub unpack_to : ℕ → ℕ → ℕ → CentralEffect
unpack_to i j x = SetXB i (coefficient_of x) j (exponent_of x)

-- 20 to 27: 20 and 21 shift Xi by jk, 22 (nominally left) and 23 (nominally right) Xk by Bj, 24 normalizes Xk, 26 unpacks it, 27 packs it with Bj
abbrev pub shifts : List ℕ → Instruction → ℕ → List CentralEffect
shifts r q em =
    SetX q.i (rotate_left 60 (x_of r q.i) q.jk)
    ∷ SetX q.i (shift_right_signed 60 (x_of r q.i) q.jk)
    ∷ SetX q.i (nominal true (b_of r q.j) (x_of r q.k))
    ∷ SetX q.i (nominal false (b_of r q.j) (x_of r q.k))
    ∷ normalize_to em q.i q.j (x_of r q.k)
    ∷ left_out
    ∷ unpack_to q.i q.j (x_of r q.k)
    ∷ SetX q.i (packed (b_of r q.j) (x_of r q.k))
    ∷ []

unfoldable pub shift_of : List ℕ → Instruction → ℕ → ℕ → CentralEffect
shift_of r q em m = get_or (shifts r q em) m left_out

-- 30 to 37: of Xj and Xk, the floating sum and difference, upper half and lower; "36, 37 sums": Xj + Xk and Xj - Xk
abbrev pub sums : List ℕ → Instruction → ℕ → List CentralEffect
sums r q em =
    floating_sum_to em q.i false false (x_of r q.j) (x_of r q.k)
    ∷ floating_sum_to em q.i true false (x_of r q.j) (x_of r q.k)
    ∷ floating_sum_to em q.i false true (x_of r q.j) (x_of r q.k)
    ∷ floating_sum_to em q.i true true (x_of r q.j) (x_of r q.k)
    ∷ left_out
    ∷ left_out
    ∷ SetX q.i (sum 60 (x_of r q.j) (x_of r q.k))
    ∷ SetX q.i (difference 60 (x_of r q.j) (x_of r q.k))
    ∷ []

unfoldable pub sum_of : List ℕ → Instruction → ℕ → ℕ → CentralEffect
sum_of r q em m = get_or (sums r q em) m left_out

-- "43 sets the top jk bits of Xi"; "46 passes"; "47 counts the ones of Xk into Xi"
unfoldable pub mask_or_count_of : List ℕ → Instruction → ℕ → CentralEffect
mask_or_count_of r q m =
    cond (eqb m 3) (SetX q.i (mask 60 q.jk))
    (cond (eqb m 6) Pass (cond (eqb m 7) (SetX q.i (count_ones 60 (x_of r q.k))) left_out))

-- "Aj+K, Bj+K, Xj+K, Xj+Bk, Aj+Bk, Aj-Bk, Bj+Bk, Bj-Bk, with the low 18 bits of Xj"
abbrev pub operands : List ℕ → Instruction → List ℕ
operands r q =
    sum 18 (a_of r q.j) q.constant
    ∷ sum 18 (b_of r q.j) q.constant
    ∷ sum 18 (low 18 (x_of r q.j)) q.constant
    ∷ sum 18 (low 18 (x_of r q.j)) (b_of r q.k)
    ∷ sum 18 (a_of r q.j) (b_of r q.k)
    ∷ difference 18 (a_of r q.j) (b_of r q.k)
    ∷ sum 18 (b_of r q.j) (b_of r q.k)
    ∷ difference 18 (b_of r q.j) (b_of r q.k)
    ∷ []

unfoldable pub operand_of : List ℕ → Instruction → ℕ → ℕ
operand_of r q m = get_or (operands r q) m 0

-- each row; "50 to 57 set Ai", "60s set Bi, 70s Xi with the sign extended"
abbrev pub central_rows : List ℕ → Instruction → ℕ → ℕ → ℕ → List CentralEffect
central_rows r q em m p =
    branch_of r q m p
    ∷ SetX q.i (logical m (x_of r q.j) (x_of r q.k))
    ∷ shift_of r q em m
    ∷ sum_of r q em m
    ∷ mask_or_count_of r q m
    ∷ SetA q.i (operand_of r q m)
    ∷ SetB q.i (operand_of r q m)
    ∷ SetX q.i (sign_extend 18 60 (operand_of r q m))
    ∷ []

-- the effect of the instruction q of the word at p, under the exit mode
unfoldable pub effect_of : List ℕ → Instruction → ℕ → ℕ → CentralEffect
effect_of r q em p = get_or (central_rows r q em (q.code % 8) p) (q.code / 8) left_out
