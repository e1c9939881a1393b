-- Records as flat lists of numbers: a central record of 29, a channel of 4, a peripheral processor of 3, and the machine's of 108, which has
-- them in this order.
use Rattle.std.specs.Prelude.{List, [], ◌∷◌, ◌++◌, ℕ, ◌+◌, ◌*◌, get_or}
use Rattle.peripheral_channel.specs.declared.record.Channel.{Channel}
use Rattle.central_record.specs.declared.record.Central.{Central}
use Rattle.peripheral_machine.specs.Numbers.{flag, is_set}
use Rattle.peripheral_machine.specs.declared.numbers.Processor.{Processor}
use Rattle.base_lists.specs.Indexed.{tabulate}
use Rattle.base_lists.specs.Rows.{rows}
use Rattle.whole_record.specs.Record.{processor_at, channel_at}
use Rattle.whole_record.specs.declared.record.MachineRecord.{MachineRecord}

abbrev pub register_row : List ℕ → ℕ → List ℕ
register_row registers i = get_or registers i 0 ∷ []

-- P, RA, FL, EM, A0 to A7, B0 to B7, X0 to X7, the stop
unfoldable pub central_numbers : Central → List ℕ
central_numbers c = (c.p ∷ c.ra ∷ c.fl ∷ c.em ∷ []) ++ (rows 24 (register_row c.registers) ++ (c.stop ∷ []))

-- active, full, mark, word
abbrev pub channel_numbers : Channel → List ℕ
channel_numbers c = flag c.active ∷ flag c.full ∷ flag c.mark ∷ c.word ∷ []

-- P, A, the stop
abbrev pub processor_numbers : Processor → List ℕ
processor_numbers q = q.p ∷ q.a ∷ q.stop ∷ []

abbrev pub channel_row : List Channel → ℕ → List ℕ
channel_row channels i = channel_numbers (channel_at channels i)

abbrev pub processor_row : List Processor → ℕ → List ℕ
processor_row processors n = processor_numbers (processor_at processors n)

-- the central record, the clock, twelve channels, ten processors
unfoldable pub machine_numbers : MachineRecord → List ℕ
machine_numbers r =
    central_numbers r.central
    ++ ((r.clock ∷ []) ++ (rows 12 (channel_row r.channels) ++ rows 10 (processor_row r.processors)))

-- the same read back
abbrev pub register_in_numbers : List ℕ → ℕ → ℕ
register_in_numbers r i = get_or r (4 + i) 0

unfoldable pub central_in : List ℕ → Central
central_in r =
    record {
      p = get_or r 0 0;
      ra = get_or r 1 0;
      fl = get_or r 2 0;
      em = get_or r 3 0;
      registers = tabulate 24 (register_in_numbers r);
      stop = get_or r 28 0;
    }

abbrev pub channel_in : List ℕ → ℕ → Channel
channel_in r at =
    record {
      active = is_set (get_or r at 0);
      full = is_set (get_or r (at + 1) 0);
      mark = is_set (get_or r (at + 2) 0);
      word = get_or r (at + 3) 0;
    }

abbrev pub processor_in : List ℕ → ℕ → Processor
processor_in r at = record { p = get_or r at 0; a = get_or r (at + 1) 0; stop = get_or r (at + 2) 0 }

abbrev pub channel_in_machine : List ℕ → ℕ → Channel
channel_in_machine r i = channel_in r (30 + 4 * i)

abbrev pub processor_in_machine : List ℕ → ℕ → Processor
processor_in_machine r n = processor_in r (78 + 3 * n)

unfoldable pub machine_in : List ℕ → MachineRecord
machine_in r =
    record {
      central = central_in r;
      clock = get_or r 29 0;
      channels = tabulate 12 (channel_in_machine r);
      processors = tabulate 10 (processor_in_machine r);
    }
