-- What the floating codes ask for, and when an operand stops them, by document 02, (f).
use Rattle.std.specs.Prelude.{Bool, cond, ◌&&◌, ℕ, eqb}
use Rattle.word_arithmetic.specs.Bits.{bit}
use Rattle.floating_word.specs.Special.{either_infinite, either_indefinite}
use Rattle.floating_sum.specs.Sums.{floating_sum}
use Rattle.floating_normalize.specs.Normalized.{normalized}
use Rattle.base_outcome.specs.declared.stop.CentralStop.TheVariants as Because
use Rattle.central_effect.specs.declared.effect.CentralEffect.{CentralEffect}
use Rattle.central_effect.specs.declared.effect.CentralEffect.TheVariants.{Stop, SetX, SetXB}

-- bit i of EM is set
abbrev pub em_set : ℕ → ℕ → Bool
em_set em i = eqb (bit em i) 1

-- "EM 020000", which is bit 13, "stops with 7 on an infinite operand"
abbrev pub stops_on_infinite : ℕ → ℕ → ℕ → Bool
stops_on_infinite em x y = em_set em 13 && either_infinite x y

-- "and 040000", bit 14, "with 8 on an indefinite one"
abbrev pub stops_on_indefinite : ℕ → ℕ → ℕ → Bool
stops_on_indefinite em x y = em_set em 14 && either_indefinite x y

-- "8 first, before any result": the effect e, unless an operand stops the code. A code of one operand gives it twice.
unfoldable pub unless_stopped : ℕ → ℕ → ℕ → CentralEffect → CentralEffect
unless_stopped em x y e =
    cond (stops_on_indefinite em x y) (Stop Because.IndefiniteOperand)
    (cond (stops_on_infinite em x y) (Stop Because.InfiniteOperand) e)

-- 24: the normalized word to Xi, the count to Bj
unfoldable pub normalize_to : ℕ → ℕ → ℕ → ℕ → CentralEffect
normalize_to em i j x = unless_stopped em x x (SetXB i (normalized x).word j (normalized x).count)

-- 30 to 33: the sum or difference, its upper or lower half, to Xi
unfoldable pub floating_sum_to : ℕ → ℕ → Bool → Bool → ℕ → ℕ → CentralEffect
floating_sum_to em i subtract lower x y = unless_stopped em x y (SetX i (floating_sum subtract lower x y))
