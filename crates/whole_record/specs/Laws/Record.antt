-- What number 5 says of each value of the machine's record.
use Rattle.std.specs.Prelude.{true, ◌≡◌, ℕ, ◌^◌, ◌<◌, ltb}
use Rattle.base_logic.specs.Laws.Tests.{both}
use Rattle.central_record.specs.Record.{record_fits}
use Rattle.base_lists.specs.Laws.Indexed.{all-at}
use Rattle.base_outcome.specs.Numbers.{peripheral_stop_listed}
use Rattle.peripheral_machine.specs.declared.numbers.Processor.{Processor}
use Rattle.whole_record.specs.declared.record.MachineRecord.{MachineRecord}
use Rattle.whole_record.specs.Record.{processor_at, channel_at, processor_fits, processor_fits_at, processors_fit, channel_fits_at, channels_fit, machine_fits}

pub record FitsProcessor (q : Processor) : Type 0 where
  pub p-width : ltb q.p (2 ^ 12) ≡ true
  pub a-width : ltb q.a (2 ^ 18) ≡ true
  pub stop-listed : peripheral_stop_listed q.stop ≡ true

pub processor-fits : (q : Processor) → processor_fits q ≡ true → FitsProcessor q
unfolding processor_fits
processor-fits q h =
    let h₂ = both _ (peripheral_stop_listed q.stop) h in
    let h₁ = both (ltb q.p (2 ^ 12)) (ltb q.a (2 ^ 18)) h₂.0 in
    record { p-width = h₁.0; a-width = h₁.1; stop-listed = h₂.1 }

pub of-processor-fits : (q : Processor) → FitsProcessor q → processor_fits q ≡ true
unfolding processor_fits
of-processor-fits q f = rw (f.p-width, f.a-width, f.stop-listed)

-- with a central memory of n words
pub record FitsMachine (n : ℕ) (r : MachineRecord) : Type 0 where
  pub central : record_fits n r.central ≡ true
  pub clock : ltb r.clock (2 ^ 12) ≡ true
  pub channel : (i : ℕ) → i < 12 → ltb (channel_at r.channels i).word (2 ^ 12) ≡ true
  pub processor : (i : ℕ) → i < 10 → FitsProcessor (processor_at r.processors i)

pub machine-fits : (n : ℕ) (r : MachineRecord) → machine_fits n r ≡ true → FitsMachine n r
unfolding machine_fits channels_fit processors_fit
machine-fits n r h =
    let h₃ = both _ (processors_fit r.processors) h in
    let h₂ = both _ (channels_fit r.channels) h₃.0 in
    let h₁ = both (record_fits n r.central) (ltb r.clock (2 ^ 12)) h₂.0 in
    record {
      central = h₁.0;
      clock = h₁.1;
      channel = λ i l. all-at (channel_fits_at r.channels) 12 h₂.1 i l;
      processor = λ i l. processor-fits (processor_at r.processors i) (all-at (processor_fits_at r.processors) 10 h₃.1 i l);
    }
