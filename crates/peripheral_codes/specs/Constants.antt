-- 10 to 17, and 20 to 23: "Codes 00 to 57 as document 004, A by the 18-bit sum". Operands of six bits are extended with zeros.
use Rattle.std.specs.Prelude.{List, [], ◌∷◌, ℕ, get_or}
use Rattle.word_arithmetic.specs.Sums.{complement, sum, difference}
use Rattle.word_arithmetic.specs.Logic.{logical_product, logical_difference, selective_clear}
use Rattle.word_shift.specs.Shifts.{shift_a}
use Rattle.peripheral_machine.specs.declared.effect.PeripheralEffect.{PeripheralEffect}
use Rattle.peripheral_machine.specs.declared.effect.PeripheralEffect.TheVariants.{Advance}
use Rattle.peripheral_machine.specs.declared.numbers.Processor.{Processor}
use Rattle.peripheral_codes.specs.Addresses.{onward, constant}

-- A after 10 to 17: shift, logical difference, logical product, selective clear, load, load complement, add, subtract
abbrev pub short_values : ℕ → ℕ → List ℕ
short_values a d =
    shift_a d a
    ∷ logical_difference a d
    ∷ logical_product a d
    ∷ selective_clear a d
    ∷ d
    ∷ complement 18 d
    ∷ sum 18 a d
    ∷ difference 18 a d
    ∷ []

unfoldable pub short_value : ℕ → ℕ → ℕ → ℕ
short_value k a d = get_or (short_values a d) k 0

-- code 1k
abbrev pub short_of : Processor → ℕ → ℕ → PeripheralEffect
short_of q k d = Advance (onward q.p 1) (short_value k q.a d)

-- A after 20 to 23: load, add, logical product and logical difference of dm
abbrev pub long_values : ℕ → ℕ → List ℕ
long_values a dm = dm ∷ sum 18 a dm ∷ logical_product a dm ∷ logical_difference a dm ∷ []

unfoldable pub long_value : ℕ → ℕ → ℕ → ℕ
long_value k a dm = get_or (long_values a dm) k 0

-- code 2k, for k to 3
abbrev pub long_of : List ℕ → Processor → ℕ → ℕ → PeripheralEffect
long_of m q k d = Advance (onward q.p 2) (long_value k q.a (constant m q.p d))
