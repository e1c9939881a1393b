-- The effect of an instruction of one parcel does not depend on K.
use Rattle.std.specs.Prelude.{true, false, List, ◌≡◌, get_or}
use Rattle.std.proofs.Common.{true≢false, sym, ap, ◌∙◌}
use Rattle.std.proofs.Math.Path.{refl}
use Prim.Native.Nat.{ℕ, zero, suc, ◌+◌, ◌*◌, ◌/◌, ◌%◌, ◌<◌}
use native.Mathlib.Omega.{arith}
use Rattle.central_codes.specs.Codes.{is_long}
use Rattle.central_decode.specs.Laws.Shifted.{with_constant}
use Rattle.central_effect.specs.Effects.{branch_of, shift_of, sum_of, mask_or_count_of, operand_of, central_rows, left_out, effect_of}
use Rattle.central_decode.specs.declared.instruction.Instruction.{Instruction}

module _ (r : List ℕ) (q : Instruction) (n em p : ℕ) where
  branch-short : (m : ℕ) → m < 8 → is_long m ≡ false → branch_of r (with_constant q n) m p ≡ branch_of r q m p
  unfolding branch_of is_long
  branch-short zero h e = refl
  branch-short (suc zero) h e = absurd (true≢false e)
  branch-short (suc (suc zero)) h e = absurd (true≢false e)
  branch-short (suc (suc (suc zero))) h e = absurd (true≢false e)
  branch-short (suc (suc (suc (suc zero)))) h e = absurd (true≢false e)
  branch-short (suc (suc (suc (suc (suc zero))))) h e = absurd (true≢false e)
  branch-short (suc (suc (suc (suc (suc (suc zero)))))) h e = absurd (true≢false e)
  branch-short (suc (suc (suc (suc (suc (suc (suc zero))))))) h e = absurd (true≢false e)
  branch-short (suc (suc (suc (suc (suc (suc (suc (suc m)))))))) h e = absurd (omega arith)

  -- the operands with K are the first three
  operand_short : (m : ℕ) → (m < 3 → ⊥) → operand_of r (with_constant q n) m ≡ operand_of r q m
  unfolding operand_of
  operand_short zero h = absurd (h (omega arith))
  operand_short (suc zero) h = absurd (h (omega arith))
  operand_short (suc (suc zero)) h = absurd (h (omega arith))
  operand_short (suc (suc (suc m))) h = refl

  long-low : (f m : ℕ) → is_long (f * 8 + zero) ≡ true → is_long (f * 8 + 1) ≡ true → is_long (f * 8 + 2) ≡ true
      → is_long (f * 8 + m) ≡ false → m < 3 → ⊥
  long-low f zero a b c e h = true≢false (sym a ∙ e)
  long-low f (suc zero) a b c e h = true≢false (sym b ∙ e)
  long-low f (suc (suc zero)) a b c e h = true≢false (sym c ∙ e)
  long-low f (suc (suc (suc m))) a b c e h = omega arith

  row-short : (f m : ℕ) → m < 8 → is_long (f * 8 + m) ≡ false
      → get_or (central_rows r (with_constant q n) em m p) f left_out ≡ get_or (central_rows r q em m p) f left_out
  unfolding shift_of sum_of mask_or_count_of is_long
  row-short zero m h e = let z : 0 * 8 + m ≡ m = omega arith in branch-short m h (sym (ap is_long z) ∙ e)
  row-short (suc zero) m h e = refl
  row-short (suc (suc zero)) m h e = refl
  row-short (suc (suc (suc zero))) m h e = refl
  row-short (suc (suc (suc (suc zero)))) m h e = refl
  row-short (suc (suc (suc (suc (suc zero))))) m h e = rw (operand_short m (long-low 5 m refl refl refl e))
  row-short (suc (suc (suc (suc (suc (suc zero)))))) m h e = rw (operand_short m (long-low 6 m refl refl refl e))
  row-short (suc (suc (suc (suc (suc (suc (suc zero))))))) m h e = rw (operand_short m (long-low 7 m refl refl refl e))
  row-short (suc (suc (suc (suc (suc (suc (suc (suc f)))))))) m h e = refl

  pub effect-short : is_long q.code ≡ false → effect_of r (with_constant q n) em p ≡ effect_of r q em p
  unfolding effect_of
  effect-short e =
      let d : q.code / 8 * 8 + q.code % 8 ≡ q.code = omega arith in
      row-short (q.code / 8) (q.code % 8) (omega arith) (rw d e)
