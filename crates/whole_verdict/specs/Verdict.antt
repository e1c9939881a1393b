-- What the host may lend for a peripheral turn or a run, by document 01, "Memory and records" and "Who can be turned down".
use Rattle.std.specs.Prelude.{Bool, true, ◌&&◌, cond, List, ℕ, ◌/◌, ◌%◌, ◌^◌, ltb, leb, eqb, length, get_or, Ok, Err}
use Rattle.base_outcome.specs.declared.refusal.Refusal.TheVariants as Refusal
use Rattle.base_outcome.specs.Verdict.{Verdict}
use Rattle.base_lists.specs.Indexed.{all_below}
use Rattle.central_record.specs.Record.{length_fits, words_fit}
use Rattle.base_outcome.specs.Order.{or_else}
use Rattle.whole_record.specs.declared.record.MachineRecord.{MachineRecord}
use Rattle.whole_record.specs.Record.{machine_fits}

-- "one lent slice, 4,096 words of 12 bits for each of 1 to 10 processors"
unfoldable pub peripheral_length_fits : ℕ → Bool
peripheral_length_fits n = leb 4096 n && leb n 40960 && eqb (n % 4096) 0

-- "4,096 words of 12 bits for each"
abbrev pub processors_in : List ℕ → ℕ
processors_in m = length m / 4096

-- "4 peripheral word over 4,095": no such word
abbrev pub short_word_fits : List ℕ → ℕ → Bool
short_word_fits m i = ltb (get_or m i 0) (2 ^ 12)

unfoldable pub short_words_fit : List ℕ → Bool
short_words_fit m = all_below (length m) (short_word_fits m)

-- "Lowest number first": "1 central length; 2 peripheral length, or a turn of a processor that isn't there; 3 central word over 60 bits;
-- 4 peripheral word over 4,095; 5". `there`: the processor whose turn is asked for is there.
unfoldable pub machine_verdict : Bool → List ℕ → List ℕ → MachineRecord → Verdict
machine_verdict there c m r =
    cond (length_fits (length c))
    (cond (peripheral_length_fits (length m) && there)
    (cond (words_fit c)
    (cond (short_words_fit m)
    (cond (machine_fits (length c) r) (Ok tt) (Err Refusal.RecordValue))
    (Err Refusal.PeripheralWord))
    (Err Refusal.CentralWord))
    (Err Refusal.PeripheralLength))
    (Err Refusal.CentralLength)

-- a turn of peripheral processor n
abbrev pub turn_verdict : List ℕ → List ℕ → MachineRecord → ℕ → Verdict
turn_verdict c m r n = machine_verdict (ltb n (processors_in m)) c m r

-- "8 … a run over 65,535 rounds"
abbrev pub rounds_verdict : ℕ → Verdict
rounds_verdict n = cond (ltb 65535 n) (Err Refusal.TooManyTurns) (Ok tt)

-- a run of n rounds: 1 to 5, then 8
unfoldable pub run_verdict : List ℕ → List ℕ → MachineRecord → ℕ → Verdict
run_verdict c m r n = or_else (machine_verdict true c m r) (rounds_verdict n)
