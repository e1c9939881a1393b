-- A turn of a peripheral processor. "Turn" is document 01's word, and here it is "One instruction".
use Rattle.std.specs.Prelude.{cond, List, [], ◌∷◌, ℕ, ◌-◌, eqb, ltb, get_or}
use Rattle.word_arithmetic.specs.Bits.{bits, low}
use Rattle.base_outcome.specs.declared.stop.PeripheralStop.TheVariants as Because
use Rattle.peripheral_machine.specs.Numbers.{processor_of, central_p}
use Rattle.peripheral_machine.specs.Machine.{Machine}
use Rattle.peripheral_machine.specs.Apply.{peripheral_applied}
use Rattle.peripheral_machine.specs.declared.effect.PeripheralEffect.{PeripheralEffect}
use Rattle.peripheral_machine.specs.declared.effect.PeripheralEffect.TheVariants.{Advance, Stop}
use Rattle.peripheral_machine.specs.declared.numbers.Processor.{Processor}
use Rattle.peripheral_codes.specs.Addresses.{word_at, onward, indexed}
use Rattle.peripheral_codes.specs.Jumps.{pass, jump_of}
use Rattle.peripheral_codes.specs.Constants.{short_of, long_of}
use Rattle.peripheral_codes.specs.Memory.{operation_of}
use Rattle.peripheral_io.specs.CentralSide.{exchange_of, read_central, write_central}
use Rattle.peripheral_io.specs.Channels.{channel_jump, input_from, output_to, change_on}

-- "codes left out stop with 36, tested before the others": 61, 63, 71 and 73, whatever A and d
abbrev pub peripheral_left_out : PeripheralEffect
peripheral_left_out = Stop Because.UnfitCode

-- 24 and 25 pass, 26 exchanges, "27 gives the central P"
abbrev pub after_constants : List ℕ → List ℕ → Processor → List PeripheralEffect
after_constants c s q = pass q ∷ pass q ∷ exchange_of c q ∷ Advance (onward q.p 1) (central_p s) ∷ []

-- code 2k
unfoldable pub second_row_of : List ℕ → List ℕ → List ℕ → Processor → ℕ → ℕ → PeripheralEffect
second_row_of m c s q k d = cond (ltb k 4) (long_of m q k d) (get_or (after_constants c s q) (k - 4) peripheral_left_out)

-- 60 to 63
abbrev pub central_words : List ℕ → List ℕ → Processor → ℕ → List PeripheralEffect
central_words m c q d = read_central c q d ∷ peripheral_left_out ∷ write_central m c q d ∷ peripheral_left_out ∷ []

-- code 6k: these, and the channel jumps 64 to 67
unfoldable pub sixth_row_of : List ℕ → List ℕ → List ℕ → Processor → ℕ → ℕ → PeripheralEffect
sixth_row_of m c s q k d = get_or (central_words m c q d) k (channel_jump m s q k d)

-- 70 to 73
abbrev pub channel_words : List ℕ → Processor → ℕ → List PeripheralEffect
channel_words s q d = input_from s q d ∷ peripheral_left_out ∷ output_to s q d ∷ peripheral_left_out ∷ []

-- code 7k: these, and 74 to 77
unfoldable pub seventh_row_of : List ℕ → List ℕ → Processor → ℕ → ℕ → PeripheralEffect
seventh_row_of m s q k d = get_or (channel_words s q d) k (change_on m s q k d)

-- by the first digit of the code; k is the second, below 8. A default is taken in rows 6 and 7 alone, where it is 64 to 67 and 74 to 77.
-- The address is d for 3k, (d) for 4k, and m + (d) for 5k.
abbrev pub peripheral_rows : List ℕ → List ℕ → List ℕ → Processor → ℕ → ℕ → List PeripheralEffect
peripheral_rows m c s q k d =
    jump_of m q k d
    ∷ short_of q k d
    ∷ second_row_of m c s q k d
    ∷ operation_of m q.a k d (onward q.p 1)
    ∷ operation_of m q.a k (word_at m d) (onward q.p 1)
    ∷ operation_of m q.a k (indexed m q.p d) (onward q.p 2)
    ∷ sixth_row_of m c s q k d
    ∷ seventh_row_of m s q k d
    ∷ []

-- the instruction w: two digits of code, then d of six bits
unfoldable pub effect_from : List ℕ → List ℕ → List ℕ → Processor → ℕ → PeripheralEffect
effect_from m c s q w = get_or (peripheral_rows m c s q (bits w 6 3) (low 6 w)) (bits w 9 3) peripheral_left_out

-- the effect of the instruction at P, with own memory m, central memory c and the machine's numbers s
abbrev pub peripheral_effect_of : List ℕ → List ℕ → List ℕ → Processor → PeripheralEffect
peripheral_effect_of m c s q = effect_from m c s q (word_at m q.p)

-- "A turn of a stopped processor changes nothing."
unfoldable pub peripheral_turn_of : Machine → ℕ → Machine
peripheral_turn_of h n =
    cond (eqb (processor_of h.numbers n).stop 0)
    (peripheral_applied h n (peripheral_effect_of h.peripheral h.central h.numbers (processor_of h.numbers n)))
    h
