-- 64 to 67, 70, 72, 74 to 77, on channels 00 to 13, and on channel 14, the clock.
use Rattle.std.specs.Prelude.{Bool, true, false, not, cond, List, [], ◌∷◌, ℕ, ◌-◌, eqb, ltb, get_or, Option, Some, None}
use Rattle.word_arithmetic.specs.Bits.{low}
use Rattle.base_outcome.specs.declared.stop.PeripheralStop.TheVariants as Because
use Rattle.peripheral_channel.specs.Codes.{channel_input, channel_output, activate_of, disconnect_of, function_of}
use Rattle.peripheral_channel.specs.declared.record.Channel.{Channel}
use Rattle.peripheral_machine.specs.Numbers.{channel_of, clock_of}
use Rattle.peripheral_machine.specs.declared.effect.PeripheralEffect.{PeripheralEffect}
use Rattle.peripheral_machine.specs.declared.effect.PeripheralEffect.TheVariants.{Advance, SetChannel, Wait, Stop}
use Rattle.peripheral_machine.specs.declared.numbers.Processor.{Processor}
use Rattle.peripheral_codes.specs.Addresses.{onward, second}

-- "32 no such channel, or 72, 74 to 77 on 14"
abbrev pub no_channel : PeripheralEffect
no_channel = Stop Because.NoChannel

-- 64 active, 65 inactive, 66 full, 67 empty
abbrev pub conditions : Channel → List Bool
conditions c = c.active ∷ not c.active ∷ c.full ∷ not c.full ∷ []

-- code 6k, for k from 4
unfoldable pub condition : Channel → ℕ → Bool
condition c k = get_or (conditions c) (k - 4) false

-- channel 14 is as one that is active and full: "64 and 66 always jump, 65 and 67 never"
unfoldable pub jump_channel : List ℕ → ℕ → Channel
jump_channel s d = cond (eqb d 0o14) (record { active = true; full = true; mark = false; word = 0 }) (channel_of s d)

unfoldable pub channel_jump : List ℕ → List ℕ → Processor → ℕ → ℕ → PeripheralEffect
channel_jump m s q k d =
    cond (ltb 0o14 d) no_channel
    (cond (condition (jump_channel s d) k) (Advance (second m q.p) q.a) (Advance (onward q.p 2) q.a))

-- "Unmet, the turn changes nothing (a wait)."
abbrev pub changed : ℕ → ℕ → ℕ → Option Channel → PeripheralEffect
changed p a d None = Wait
changed p a d (Some c) = SetChannel p a d c

-- on channels 00 to 13 alone
abbrev pub on_channel : ℕ → PeripheralEffect → PeripheralEffect
on_channel d e = cond (ltb d 0o14) e no_channel

-- 70: "Channel 14 is the clock: 70 reads it"; else the channel's word goes to A
unfoldable pub input_from : List ℕ → Processor → ℕ → PeripheralEffect
input_from s q d =
    cond (eqb d 0o14) (Advance (onward q.p 1) (clock_of s))
    (on_channel d (changed (onward q.p 1) (channel_of s d).word d (channel_input (channel_of s d))))

-- 72: the low 12 bits of A go out
unfoldable pub output_to : List ℕ → Processor → ℕ → PeripheralEffect
output_to s q d = on_channel d (changed (onward q.p 1) q.a d (channel_output (channel_of s d) (low 12 q.a)))

-- 74 activate, 75 disconnect, 76 function A, 77 function m
abbrev pub changes : List ℕ → Channel → Processor → ℕ → List PeripheralEffect
changes m c q d =
    changed (onward q.p 1) q.a d (activate_of c)
    ∷ changed (onward q.p 1) q.a d (disconnect_of c)
    ∷ changed (onward q.p 1) q.a d (function_of c (low 12 q.a))
    ∷ changed (onward q.p 2) q.a d (function_of c (second m q.p))
    ∷ []

-- code 7k, for k from 4, on channel d, whose record is c
unfoldable pub change_of : List ℕ → Channel → Processor → ℕ → ℕ → PeripheralEffect
change_of m c q k d = get_or (changes m c q d) (k - 4) no_channel

unfoldable pub change_on : List ℕ → List ℕ → Processor → ℕ → ℕ → PeripheralEffect
change_on m s q k d = on_channel d (change_of m (channel_of s d) q k d)
