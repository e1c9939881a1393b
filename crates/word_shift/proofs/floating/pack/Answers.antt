-- `word_shift::floating::pack` meets its contract.
use mathlib.Core.Path.{◌≡◌, ◌∙◌}
use Prim.Native.Nat.{ℕ, ◌-◌, ◌^◌, ◌<◌}
use native.Mathlib.Omega.{arith}
use lib.Dec.{lit≤}
use Rattle.word_arithmetic.specs.Bits.{low}
use Rattle.word_arithmetic.proofs.Machine.{or-above}
use Rattle.word_shift.specs.Floating.{stored_from, packed}
use Rattle.word_shift.specs.Laws.Floating.{stored-lt}
use Rattle.word_shift.proofs.floating.pack.Goals as goal

-- the stored exponent has 11 bits
small : (b c e : ℕ) → c ≡ low 11 b → e ≡ stored_from c → e < 2 ^ 11
small b c e p q = omega (arith, stored-lt c (omega arith))

pub overflow_sub-result : goal.overflow_sub-result
overflow_sub-result c = omega (arith, small c.args.b _ _ c.low.ensures c.stored-s.ensures)

pub returns-then-is_negative : goal.returns-then-is_negative
unfolding packed
returns-then-is_negative c =
    let s = c.stored-s.result in
    let l : s < 2 ^ 11 = small c.args.b _ _ c.low.ensures c.stored-s.ensures in
    simp (← c.is_negative.ensures, c.if-is_negative.true, ← c.low.ensures, ← c.stored-s.ensures, ← c.low-c.ensures) (or-above 64 12 48 (0o7777 - s) c.low-c.result (lit≤ tt) (omega arith) (omega arith) ∙ omega arith)

pub returns-else-is_negative : goal.returns-else-is_negative
unfolding packed
returns-else-is_negative c =
    let s = c.stored-s.result in
    let l : s < 2 ^ 11 = small c.args.b _ _ c.low.ensures c.stored-s.ensures in
    simp (← c.is_negative.ensures, c.if-is_negative.false, ← c.low.ensures, ← c.stored-s.ensures, ← c.low-c.ensures) (or-above 64 12 48 s c.low-c.result (lit≤ tt) (omega arith) (omega arith))
