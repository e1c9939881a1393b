-- 26, 60 and 62.
use Rattle.std.specs.Prelude.{cond, List, ℕ, ◌+◌, ltb, length}
use Rattle.word_fields.specs.Fields.{from_parts}
use Rattle.base_outcome.specs.declared.stop.PeripheralStop.TheVariants as Because
use Rattle.exchange_jump.specs.Jump.{package_inside, package_clean, field_inside}
use Rattle.peripheral_machine.specs.declared.effect.PeripheralEffect.{PeripheralEffect}
use Rattle.peripheral_machine.specs.declared.effect.PeripheralEffect.TheVariants.{ReadCentral, WriteCentral, Exchange, Stop}
use Rattle.peripheral_machine.specs.declared.numbers.Processor.{Processor}
use Rattle.peripheral_codes.specs.Addresses.{word_at, onward}

-- "26 exchanges at A"; "33, 34, 35 for package faults 9, 10, 11", "lowest first": each fault by its own test
unfoldable pub exchange_of : List ℕ → Processor → PeripheralEffect
exchange_of c q =
    cond (package_inside c q.a)
    (cond (package_clean c q.a)
    (cond (field_inside c q.a) (Exchange (onward q.p 1) q.a q.a) (Stop Because.FieldPastEnd))
    (Stop Because.StrayBits))
    (Stop Because.PackagePastEnd)

-- "31 central address of 60 or 62 at or past the end"
abbrev pub if_inside : List ℕ → ℕ → PeripheralEffect → PeripheralEffect
if_inside c a e = cond (ltb a (length c)) e (Stop Because.CentralAddress)

-- "60, 62 move one word in five parts, top part first". 60: the word at A to the five words from d up
unfoldable pub read_central : List ℕ → Processor → ℕ → PeripheralEffect
read_central c q d = if_inside c q.a (ReadCentral (onward q.p 1) q.a d (word_at c q.a))

-- the word of the five parts from d up
unfoldable pub joined : List ℕ → ℕ → ℕ
joined m d = from_parts (word_at m d) (word_at m (d + 1)) (word_at m (d + 2)) (word_at m (d + 3)) (word_at m (d + 4))

-- 62: that word to the word at A
unfoldable pub write_central : List ℕ → List ℕ → Processor → ℕ → PeripheralEffect
write_central m c q d = if_inside c q.a (WriteCentral (onward q.p 1) q.a q.a (joined m d))
