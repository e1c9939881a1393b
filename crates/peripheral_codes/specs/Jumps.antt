-- 00 to 07: "Codes 00 to 57 as document 004".
use Rattle.std.specs.Prelude.{Bool, not, cond, List, [], ◌∷◌, ℕ, eqb, get_or}
use Rattle.word_arithmetic.specs.Bits.{negative}
use Rattle.peripheral_machine.specs.declared.effect.PeripheralEffect.{PeripheralEffect}
use Rattle.peripheral_machine.specs.declared.effect.PeripheralEffect.TheVariants.{Advance, Store}
use Rattle.peripheral_machine.specs.declared.numbers.Processor.{Processor}
use Rattle.peripheral_codes.specs.Addresses.{onward, indexed, jump_target}

-- one word on, and A as it was
abbrev pub pass : Processor → PeripheralEffect
pass q = Advance (onward q.p 1) q.a

abbrev pub relative_jump_if : Processor → ℕ → Bool → PeripheralEffect
relative_jump_if q d taken = cond taken (Advance (jump_target q.p d) q.a) (pass q)

-- "02 stores P + 2 at its target and goes one beyond"
abbrev pub return_jump : Processor → ℕ → PeripheralEffect
return_jump q target = Store (onward target 1) q.a target (onward q.p 2)

-- pass, long jump, return jump, jump; jump where A is zero, not zero, plus, minus. "04 and 05 take 777777 as not zero."
abbrev pub jumps : List ℕ → Processor → ℕ → List PeripheralEffect
jumps m q d =
    pass q
    ∷ Advance (indexed m q.p d) q.a
    ∷ return_jump q (indexed m q.p d)
    ∷ Advance (jump_target q.p d) q.a
    ∷ relative_jump_if q d (eqb q.a 0)
    ∷ relative_jump_if q d (not (eqb q.a 0))
    ∷ relative_jump_if q d (not (negative 18 q.a))
    ∷ relative_jump_if q d (negative 18 q.a)
    ∷ []

-- code 0k
unfoldable pub jump_of : List ℕ → Processor → ℕ → ℕ → PeripheralEffect
jump_of m q k d = get_or (jumps m q d) k (pass q)
