-- Which slices of numbers are records: those of the right length, whose flags are 0 or 1. In the place of any other stands a record that
-- number 5 refuses, so that 1 to 4 are tested before it.
use Rattle.std.specs.Prelude.{Bool, false, ◌&&◌, cond, List, ℕ, ◌+◌, ◌*◌, leb, eqb, length, get_or, replicate}
use Rattle.peripheral_channel.specs.declared.record.Channel.{Channel}
use Rattle.base_lists.specs.Indexed.{all_below}
use Rattle.central_record.specs.declared.record.Central.{Central}
use Rattle.whole_record.specs.Record.{idle}
use Rattle.whole_record.specs.declared.record.MachineRecord.{MachineRecord}
use Rattle.host_record.specs.Layout.{central_in, channel_in, machine_in}

-- the flags of the channel at this place
unfoldable pub flags_fit : List ℕ → ℕ → Bool
flags_fit r at = leb (get_or r at 0) 1 && leb (get_or r (at + 1) 0) 1 && leb (get_or r (at + 2) 0) 1

abbrev pub flags_fit_in_machine : List ℕ → ℕ → Bool
flags_fit_in_machine r i = flags_fit r (30 + 4 * i)

unfoldable pub all_flags_fit : List ℕ → Bool
all_flags_fit r = all_below 12 (flags_fit_in_machine r)

-- P has more than 18 bits
unfoldable pub refused_central : Central
refused_central = record { p = 0o1000000; ra = 0; fl = 0; em = 0; registers = replicate 24 0; stop = 0 }

-- the word has more than 12 bits
unfoldable pub refused_channel : Channel
refused_channel = record { active = false; full = false; mark = false; word = 0o10000 }

unfoldable pub refused_machine : MachineRecord
refused_machine =
    record { central = refused_central; clock = 0; channels = replicate 12 refused_channel; processors = replicate 10 idle }

-- the record that a slice of numbers is, of so many numbers and with flags that fit, and otherwise the one that is refused
abbrev pub lent_by : {A : Type 0} → ℕ → (List ℕ → Bool) → (List ℕ → A) → A → List ℕ → A
lent_by size fits read refused r = cond (eqb (length r) size && fits r) (read r) refused

unfoldable pub central_lent : List ℕ → Central
central_lent r = cond (eqb (length r) 29) (central_in r) refused_central

unfoldable pub channel_lent : List ℕ → Channel
channel_lent r = cond (eqb (length r) 4 && flags_fit r 0) (channel_in r 0) refused_channel

unfoldable pub machine_lent : List ℕ → MachineRecord
machine_lent r = cond (eqb (length r) 108 && all_flags_fit r) (machine_in r) refused_machine
