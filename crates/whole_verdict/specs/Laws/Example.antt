-- The tests at their edges, by computing.
use Rattle.std.specs.Prelude.{true, false, ◌≡◌, refl, ℕ}
use Rattle.peripheral_machine.specs.declared.numbers.Processor.{Processor}
use Rattle.whole_record.specs.Record.{processor_fits}
use Rattle.whole_verdict.specs.Verdict.{peripheral_length_fits}

-- "4,096 words of 12 bits for each of 1 to 10 processors"
pub record Lengths : Type 0 where
  pub none : peripheral_length_fits 0 ≡ false
  pub one : peripheral_length_fits 4096 ≡ true
  pub one_word_more : peripheral_length_fits 4097 ≡ false
  pub ten : peripheral_length_fits 40960 ≡ true
  pub eleven : peripheral_length_fits 45056 ≡ false

pub lengths : Lengths
unfolding peripheral_length_fits
lengths = record { none = refl; one = refl; one_word_more = refl; ten = refl; eleven = refl }

abbrev processor : ℕ → ℕ → ℕ → Processor
processor p a stop = record { p = p; a = a; stop = stop }

-- P has 12 bits, A has 18, and the stops are 0 and 31 to 36
pub record Processors : Type 0 where
  pub widest : processor_fits (processor 0o7777 0o777777 36) ≡ true
  pub running : processor_fits (processor 0 0 0) ≡ true
  pub p-too-wide : processor_fits (processor 0o10000 0 0) ≡ false
  pub a-too-wide : processor_fits (processor 0 0o1000000 0) ≡ false
  pub central-stop : processor_fits (processor 0 0 5) ≡ false
  pub first-stop : processor_fits (processor 0 0 31) ≡ true
  pub before-first : processor_fits (processor 0 0 30) ≡ false
  pub past-last : processor_fits (processor 0 0 37) ≡ false

pub processors : Processors
unfolding processor_fits
processors =
    record {
      widest = refl;
      running = refl;
      p-too-wide = refl;
      a-too-wide = refl;
      central-stop = refl;
      first-stop = refl;
      before-first = refl;
      past-last = refl;
    }
