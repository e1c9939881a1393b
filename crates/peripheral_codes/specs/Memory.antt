-- 30 to 57: the first digit gives the address, the second what is done with the word there. "Codes 00 to 57 as document 004, A by the 18-bit
-- sum"; words of twelve bits are extended with zeros.
use Rattle.std.specs.Prelude.{List, [], ◌∷◌, ℕ, get_or}
use Rattle.word_arithmetic.specs.Bits.{low}
use Rattle.word_arithmetic.specs.Sums.{sum, difference}
use Rattle.word_arithmetic.specs.Logic.{logical_difference}
use Rattle.peripheral_machine.specs.declared.effect.PeripheralEffect.{PeripheralEffect}
use Rattle.peripheral_machine.specs.declared.effect.PeripheralEffect.TheVariants.{Advance, Store}
use Rattle.peripheral_codes.specs.Addresses.{word_at}

-- "Replace codes leave the sum in A and its low 12 bits in memory."
abbrev pub replaced : ℕ → ℕ → ℕ → PeripheralEffect
replaced p i v = Store p v i (low 12 v)

-- with A, the next P, and the word v at i: load, add, subtract, logical difference, store, replace add, replace add one, replace subtract one
abbrev pub operations : ℕ → ℕ → ℕ → ℕ → List PeripheralEffect
operations a p i v =
    Advance p v
    ∷ Advance p (sum 18 a v)
    ∷ Advance p (difference 18 a v)
    ∷ Advance p (logical_difference a v)
    ∷ Store p a i (low 12 a)
    ∷ replaced p i (sum 18 a v)
    ∷ replaced p i (sum 18 v 1)
    ∷ replaced p i (difference 18 v 1)
    ∷ []

unfoldable pub operation_of : List ℕ → ℕ → ℕ → ℕ → ℕ → PeripheralEffect
operation_of m a k i p = get_or (operations a p i (word_at m i)) k (Advance p a)
