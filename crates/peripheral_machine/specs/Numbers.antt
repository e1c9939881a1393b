-- The machine's record, but for the central processor's 24 registers, as one list of 84 numbers: P, A and stop of ten peripheral processors
-- at 0, 10 and 20; active, full, mark and word of twelve channels at 30, 42, 54 and 66; P, RA, FL, EM and stop of the central processor
-- at 78 to 82; the clock at 83.
use Rattle.std.specs.Prelude.{Bool, cond, List, ℕ, ◌+◌, eqb, get_or, set}
use Rattle.base_outcome.specs.Numbers.{peripheral_stop_number}
use Rattle.base_outcome.specs.declared.stop.PeripheralStop.{PeripheralStop}
use Rattle.peripheral_channel.specs.declared.record.Channel.{Channel}
use Rattle.central_field.specs.declared.address.Bounds.{Bounds}
use Rattle.central_record.specs.declared.record.Central.{Central}
use Rattle.peripheral_machine.specs.declared.numbers.Processor.{Processor}

-- the record of processor n
abbrev pub processor_of : List ℕ → ℕ → Processor
processor_of s n = record { p = get_or s n 0; a = get_or s (10 + n) 0; stop = get_or s (20 + n) 0 }

-- a new P and A of processor n
abbrev pub advanced : List ℕ → ℕ → ℕ → ℕ → List ℕ
advanced s n p a = set (set s n p) (10 + n) a

-- a new stop of processor n
abbrev pub stopped : List ℕ → ℕ → PeripheralStop → List ℕ
stopped s n why = set s (20 + n) (peripheral_stop_number why)

-- a flag as a number, and as it was
abbrev pub flag : Bool → ℕ
flag b = cond b 1 0

abbrev pub is_set : ℕ → Bool
is_set v = eqb v 1

-- the record of channel i
abbrev pub channel_of : List ℕ → ℕ → Channel
channel_of s i =
    record {
      active = is_set (get_or s (30 + i) 0);
      full = is_set (get_or s (42 + i) 0);
      mark = is_set (get_or s (54 + i) 0);
      word = get_or s (66 + i) 0;
    }

abbrev pub with_channel : List ℕ → ℕ → Channel → List ℕ
with_channel s i c =
    set (set (set (set s (30 + i) (flag c.active)) (42 + i) (flag c.full)) (54 + i) (flag c.mark)) (66 + i) c.word

-- the record of the central processor, with its registers x
abbrev pub central_of : List ℕ → List ℕ → Central
central_of x s =
    record { p = get_or s 78 0; ra = get_or s 79 0; fl = get_or s 80 0; em = get_or s 81 0; registers = x; stop = get_or s 82 0 }

abbrev pub central_p : List ℕ → ℕ
central_p s = get_or s 78 0

abbrev pub central_bounds : List ℕ → Bounds
central_bounds s = record { ra = get_or s 79 0; fl = get_or s 80 0; em = get_or s 81 0 }

abbrev pub central_stop : List ℕ → ℕ
central_stop s = get_or s 82 0

-- P, RA, FL, EM and stop of the central processor
abbrev pub with_controls : List ℕ → ℕ → ℕ → ℕ → ℕ → ℕ → List ℕ
with_controls s p ra fl em stop = set (set (set (set (set s 78 p) 79 ra) 80 fl) 81 em) 82 stop

abbrev pub with_central : List ℕ → Central → List ℕ
with_central s c = with_controls s c.p c.ra c.fl c.em c.stop

abbrev pub clock_of : List ℕ → ℕ
clock_of s = get_or s 83 0

abbrev pub with_clock : List ℕ → ℕ → List ℕ
with_clock s clock = set s 83 clock
