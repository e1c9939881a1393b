-- The machine's record as 84 numbers, in the order of `peripheral_machine`'s `Numbers`, and back.
use Rattle.std.specs.Prelude.{cond, List, [], ◌∷◌, ℕ, ◌-◌, ltb, get_or}
use Rattle.peripheral_channel.specs.declared.record.Channel.{Channel}
use Rattle.base_lists.specs.Indexed.{tabulate}
use Rattle.peripheral_machine.specs.Machine.{Machine, machine}
use Rattle.peripheral_machine.specs.Numbers.{processor_of, flag, channel_of, central_of, clock_of}
use Rattle.peripheral_machine.specs.declared.numbers.Processor.{Processor}
use Rattle.whole_record.specs.declared.record.MachineRecord.{MachineRecord}
use Rattle.whole_record.specs.Record.{processor_at, channel_at}

-- P, A and stop of ten processors
unfoldable pub processor_number : List Processor → ℕ → ℕ
processor_number l i =
    cond (ltb i 10) (processor_at l i).p (cond (ltb i 20) (processor_at l (i - 10)).a (processor_at l (i - 20)).stop)

-- active, full, mark and word of twelve channels
unfoldable pub channel_number : List Channel → ℕ → ℕ
channel_number l i =
    cond (ltb i 12) (flag (channel_at l i).active)
    (cond (ltb i 24) (flag (channel_at l (i - 12)).full)
    (cond (ltb i 36) (flag (channel_at l (i - 24)).mark) (channel_at l (i - 36)).word))

-- P, RA, FL, EM and stop of the central processor, and the clock
abbrev pub control_numbers : MachineRecord → List ℕ
control_numbers r =
    r.central.p ∷ r.central.ra ∷ r.central.fl ∷ r.central.em ∷ r.central.stop ∷ r.clock ∷ []

-- the number at place i
unfoldable pub number_of : MachineRecord → ℕ → ℕ
number_of r i =
    cond (ltb i 30) (processor_number r.processors i)
    (cond (ltb i 78) (channel_number r.channels (i - 30)) (get_or (control_numbers r) (i - 78) 0))

unfoldable pub numbers_of : MachineRecord → List ℕ
numbers_of r = tabulate 84 (number_of r)

abbrev pub processors_of : List ℕ → List Processor
processors_of s = tabulate 10 (processor_of s)

abbrev pub channels_of : List ℕ → List Channel
channels_of s = tabulate 12 (channel_of s)

-- the record, with the central processor's registers x
abbrev pub record_of : List ℕ → List ℕ → MachineRecord
record_of x s =
    record { central = central_of x s; clock = clock_of s; channels = channels_of s; processors = processors_of s }

-- both memories and the record as the machine that turns work on
abbrev pub machine_of : List ℕ → List ℕ → MachineRecord → Machine
machine_of c m r = machine m c r.central.registers (numbers_of r)
