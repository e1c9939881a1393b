-- Effects name registers that are there and values of their widths; the effect of a code by its number.
use Rattle.std.specs.Prelude.{Bool, List, ◌≡◌, ℕ, ◌+◌, ◌/◌, ◌%◌, ◌^◌, ◌<◌, eqb, get_or}
use Rattle.std.proofs.Math.Bool.{true, false}
use native.Mathlib.Omega.{arith}
use Rattle.std.proofs.Common.{lit<, lit≤}
use Rattle.word_arithmetic.specs.Bits.{low}
use Rattle.central_condition.specs.Conditions.{word_condition, comparison}
use Rattle.base_logic.specs.Laws.Choice.{of-cond}
use Rattle.base_lists.specs.Laws.Each.{of-get_d}
use Rattle.word_arithmetic.specs.Laws.Logic.{logical-lt}
use Rattle.word_arithmetic.specs.Laws.Sums.{sum_lt, difference-lt, extend-lt}
use Rattle.word_shift.specs.Laws.Floating.{coefficient-lt, exponent_lt, packed_lt}
use Rattle.word_shift.specs.Laws.Rotation.{rotate-lt}
use Rattle.word_shift.specs.Laws.Nominal.{nominal-lt}
use Rattle.word_shift.specs.Laws.Shifts.{mask_lt, signed_lt, count-le}
use Rattle.floating_sum.specs.Laws.Sums.{floating-sum-lt}
use Rattle.floating_normalize.specs.Laws.Normalized.{normal-word-lt, normal-count-lt}
use Rattle.central_registers.specs.Registers.{a_of, b_of, x_of}
use Rattle.central_effect.specs.Floating.{stops_on_infinite, stops_on_indefinite, unless_stopped, normalize_to, floating_sum_to}
use Rattle.central_effect.specs.Effects.{jump_if, first_branches, branch_of, unpack_to, shifts, left_out, shift_of, sums, sum_of, mask_or_count_of, operands, operand_of, central_rows, effect_of}
use Rattle.central_decode.specs.Shifted.{decoded_top}
use Rattle.central_decode.specs.Widths.{Fit}
use Rattle.central_registers.specs.Widths.{Wide}
use Rattle.central_effect.specs.Sound.{CentralSound}
use Rattle.central_decode.specs.declared.instruction.Instruction.{Instruction}
use Rattle.central_effect.specs.declared.effect.CentralEffect.{CentralEffect}

module _ (r : List ℕ) (q : Instruction) (w : Wide r) (f : Fit q) where
  a_lt : (i : ℕ) → i < 8 → a_of r i < 2 ^ 18
  a_lt i h = w.short i (omega arith)

  b_lt : (i : ℕ) → i < 8 → b_of r i < 2 ^ 18
  b_lt i h = w.short (8 + i) (omega arith)

  x_lt : (i : ℕ) → x_of r i < 2 ^ 60
  x_lt i = w.long (16 + i)

  pub operand-lt : (m : ℕ) → operand_of r q m < 2 ^ 18
  unfolding operand_of
  operand-lt m =
      let aj = a_lt q.j f.j in
      let bj = b_lt q.j f.j in
      let bk = b_lt q.k f.k in
      let xj : low 18 (x_of r q.j) < 2 ^ 18 = omega arith in
      of-get_d (λ (v : ℕ). v < 2 ^ 18) (operands r q) m 0 (
        sum_lt 18 _ _ aj f.constant,
        (
          sum_lt 18 _ _ bj f.constant,
          (
            sum_lt 18 _ _ xj f.constant,
            (
              sum_lt 18 _ _ xj bk,
              (sum_lt 18 _ _ aj bk, (difference-lt 18 _ _ aj, (sum_lt 18 _ _ bj bk, (difference-lt 18 _ _ bj, tt)))),
            ),
          ),
        ),
      )
      (lit< tt)

  jump-sound : (t : Bool) → CentralSound (jump_if t q.constant)
  jump-sound true = f.constant
  jump-sound false = tt

  branch-sound : (m p : ℕ) → p < 131072 → CentralSound (branch_of r q m p)
  unfolding branch_of
  branch-sound m p h =
      of-get_d CentralSound (first_branches r q p) m _ (
        tt,
        (
          (f.constant, omega arith),
          (sum_lt 18 _ _ (b_lt q.i f.i) f.constant, (jump-sound (word_condition q.i (x_of r q.j)), tt)),
        ),
      )
      (jump-sound (comparison m (b_of r q.i) (b_of r q.j)))

  unpack-sound : (i j x : ℕ) → i < 8 → j < 8 → x < 2 ^ 60 → CentralSound (unpack_to i j x)
  unfolding unpack_to
  unpack-sound i j x hi hj h = ((hi, coefficient-lt x), (hj, exponent_lt x h))

  -- what is sound where no operand stops the code is sound
  unless-sound : (em x y : ℕ) (e : CentralEffect) → CentralSound e → CentralSound (unless_stopped em x y e)
  unfolding unless_stopped
  unless-sound em x y e h =
      of-cond CentralSound (stops_on_indefinite em x y) (λ t. tt) (λ t. of-cond CentralSound (stops_on_infinite em x y) (λ t. tt) (λ t. h))

  normalize-sound : (em i j x : ℕ) → i < 8 → j < 8 → x < 2 ^ 60 → CentralSound (normalize_to em i j x)
  unfolding normalize_to
  normalize-sound em i j x hi hj h = unless-sound em x x _ ((hi, normal-word-lt x h), (hj, normal-count-lt x))

  floating-sound : (em : ℕ) (subtract lower : Bool) → CentralSound (floating_sum_to em q.i subtract lower (x_of r q.j) (x_of r q.k))
  unfolding floating_sum_to
  floating-sound em subtract lower =
      unless-sound em (x_of r q.j) (x_of r q.k) _ (f.i, floating-sum-lt subtract lower _ _ (x_lt q.j) (x_lt q.k))

  shift-sound : (em m : ℕ) → CentralSound (shift_of r q em m)
  unfolding shift_of
  shift-sound em m =
      let xi = x_lt q.i in
      let xk = x_lt q.k in
      of-get_d CentralSound (shifts r q em) m left_out (
        (f.i, rotate-lt 60 _ _ (lit< tt) xi),
        (
          (f.i, signed_lt 60 _ _ xi),
          (
            (f.i, nominal-lt true _ _ xk),
            (
              (f.i, nominal-lt false _ _ xk),
              (
                normalize-sound em _ _ _ f.i f.j xk,
                (tt, (unpack-sound _ _ _ f.i f.j xk, ((f.i, packed_lt _ _), tt))),
              ),
            ),
          ),
        ),
      )
      tt

  sum-sound : (em m : ℕ) → CentralSound (sum_of r q em m)
  unfolding sum_of
  sum-sound em m =
      of-get_d CentralSound (sums r q em) m left_out (
        floating-sound em false false,
        (
          floating-sound em true false,
          (
            floating-sound em false true,
            (
              floating-sound em true true,
              (tt, (tt, ((f.i, sum_lt 60 _ _ (x_lt q.j) (x_lt q.k)), ((f.i, difference-lt 60 _ _ (x_lt q.j)), tt)))),
            ),
          ),
        ),
      )
      tt

  mask-or-count-sound : (m : ℕ) → CentralSound (mask_or_count_of r q m)
  unfolding mask_or_count_of
  mask-or-count-sound m =
      of-cond CentralSound (eqb m 3) (λ e. (f.i, mask_lt 60 _))
      (λ e. of-cond CentralSound (eqb m 6) (λ e. tt)
      (λ e. of-cond CentralSound (eqb m 7) (λ e. (f.i, omega (arith, count-le 60 _ (x_lt q.k)))) (λ e. tt)))

  pub effect-sound : (em p : ℕ) → p < 131072 → CentralSound (effect_of r q em p)
  unfolding effect_of
  effect-sound em p h =
      let m = q.code % 8 in
      of-get_d CentralSound (central_rows r q em m p) (q.code / 8) left_out (
        branch-sound m p h,
        (
          (f.i, logical-lt m _ _ (x_lt q.j) (x_lt q.k)),
          (
            shift-sound em m,
            (
              sum-sound em m,
              (
                mask-or-count-sound m,
                (
                  (f.i, operand-lt m),
                  ((f.i, operand-lt m), ((f.i, extend-lt 18 60 _ (lit≤ tt) (operand-lt m)), tt)),
                ),
              ),
            ),
          ),
        ),
      )
      tt

-- the effect of a code by its number, which picks the row and the entry
effect-by-code : (r : List ℕ) (q : Instruction) (em p c : ℕ) → q.code ≡ c
    → effect_of r q em p ≡ get_or (central_rows r q em (c % 8) p) (c / 8) left_out
unfolding effect_of
effect-by-code r q em p c e = rw e

pub effect-at-top : (r : List ℕ) (v em p c : ℕ) → v / 2 ^ 58 ≡ c
    → effect_of r (decoded_top v) em p ≡ get_or (central_rows r (decoded_top v) em (c % 8) p) (c / 8) left_out
unfolding decoded_top
effect-at-top r v em p c e = effect-by-code r (decoded_top v) em p c e
