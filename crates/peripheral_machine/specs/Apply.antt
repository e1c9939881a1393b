-- What an effect does to the machine.
use Rattle.std.specs.Prelude.{List, ℕ, ◌+◌, set}
use Rattle.word_fields.specs.Fields.{word_part}
use Rattle.exchange_jump.specs.Jump.{Exchanged, exchanged}
use Rattle.central_record.specs.declared.record.Central.{Central}
use Rattle.peripheral_machine.specs.declared.effect.PeripheralEffect.{PeripheralEffect}
use Rattle.peripheral_machine.specs.declared.effect.PeripheralEffect.TheVariants.{Advance, Store, ReadCentral, WriteCentral, SetChannel, Exchange, Wait, Stop}
use Rattle.peripheral_machine.specs.Numbers.{advanced, stopped, with_channel, central_of, with_central}
use Rattle.peripheral_machine.specs.Machine.{Machine, machine, CentralSide, central_side}

-- "60, 62 move one word in five parts, top part first"
unfoldable pub with_parts : List ℕ → ℕ → ℕ → List ℕ
with_parts m i w =
    set (set (set (set (set m i (word_part w 0)) (i + 1) (word_part w 1)) (i + 2) (word_part w 2)) (i + 3) (word_part w 3)) (i + 4) (word_part w 4)

-- central memory and the central processor's record, put back beside the other numbers s
abbrev pub put_back : List ℕ → List ℕ → Central → CentralSide
put_back s memory central = central_side memory central.registers (with_central s central)

abbrev pub after_exchange : List ℕ → Exchanged → CentralSide
after_exchange s o = put_back s o.memory o.central

-- "26 exchanges at A"
unfoldable pub exchanged_at : List ℕ → List ℕ → List ℕ → ℕ → CentralSide
exchanged_at c x s at = after_exchange s (exchanged c (central_of x s) at)

-- processor n goes on after an exchange jump
abbrev pub advanced_after : Machine → ℕ → ℕ → ℕ → CentralSide → Machine
advanced_after h n p a o = machine h.peripheral o.central o.registers (advanced o.numbers n p a)

-- "The stopped instruction changes nothing else"; "Unmet, the turn changes nothing (a wait)."
unfoldable pub peripheral_applied : Machine → ℕ → PeripheralEffect → Machine
peripheral_applied h n (Advance p a) = machine h.peripheral h.central h.registers (advanced h.numbers n p a)
peripheral_applied h n (Store p a i v) = machine (set h.peripheral i v) h.central h.registers (advanced h.numbers n p a)
peripheral_applied h n (ReadCentral p a i w) = machine (with_parts h.peripheral i w) h.central h.registers (advanced h.numbers n p a)
peripheral_applied h n (WriteCentral p a i w) = machine h.peripheral (set h.central i w) h.registers (advanced h.numbers n p a)
peripheral_applied h n (SetChannel p a i c) = machine h.peripheral h.central h.registers (advanced (with_channel h.numbers i c) n p a)
peripheral_applied h n (Exchange p a at) = advanced_after h n p a (exchanged_at h.central h.registers h.numbers at)
peripheral_applied h n Wait = h
peripheral_applied h n (Stop why) = machine h.peripheral h.central h.registers (stopped h.numbers n why)
