-- Turns of the peripheral processors, each on its own memory.
use Rattle.std.specs.Prelude.{ℕ, zero, suc, ◌+◌, ◌*◌}
use Rattle.base_lists.specs.Parts.{part, splice}
use Rattle.peripheral_machine.specs.Machine.{Machine, machine}
use Rattle.peripheral_turn.specs.Turn.{peripheral_turn_of}

-- the machine with the 4,096 words of processor n alone
abbrev pub lent_to : Machine → ℕ → Machine
lent_to h n = machine (part h.peripheral (n * 4096) 4096) h.central h.registers h.numbers

-- the machine with the words of processor n, and all else, as in o
abbrev pub returned : Machine → ℕ → Machine → Machine
returned h n o = machine (splice h.peripheral (n * 4096) 4096 o.peripheral) o.central o.registers o.numbers

-- a turn of processor n
unfoldable pub processor_turned : Machine → ℕ → Machine
processor_turned h n = returned h n (peripheral_turn_of (lent_to h n) n)

-- "peripheral processors in rising number": k of them, from n on
unfoldable pub processors_turned : ℕ → ℕ → Machine → Machine
processors_turned zero n h = h
processors_turned (suc k) n h = processors_turned k (n + 1) (processor_turned h n)
