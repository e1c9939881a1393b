-- A record that is stored is read back: no value of it is lost in the numbers.
use mathlib.Core.List.{List}
use Rattle.std.specs.Prelude.{◌≡◌, ℕ, length}
use Rattle.std.proofs.Math.Path.{ap}
use Rattle.std.proofs.Common.{◌∙◌}
use Rattle.peripheral_channel.specs.Codes.{disconnected}
use Rattle.peripheral_channel.specs.declared.record.Channel.{Channel}
use Rattle.central_record.specs.declared.record.Central.{Central}
use Rattle.peripheral_machine.specs.declared.numbers.Processor.{Processor}
use Rattle.base_lists.specs.Rows.{rows}
use Rattle.base_lists.specs.Indexed.{tabulate}
use Rattle.whole_record.specs.Record.{idle, channel_at, processor_at}
use Rattle.base_lists.specs.Laws.Indexed.{tabulate-of, tabulate-own}
use Rattle.whole_record.specs.Laws.Numbers.{flag-read}
use Rattle.whole_record.specs.declared.record.MachineRecord.{MachineRecord}
use Rattle.host_record.specs.Layout.{central_numbers, channel_numbers, machine_numbers, central_in, channel_in, machine_in}

pub channel-stored-again : (c : Channel) → channel_in (channel_numbers c) 0 ≡ c
channel-stored-again c = rw (flag-read c.active, flag-read c.full, flag-read c.mark)

pub central-stored-again : (c : Central) → length c.registers ≡ 24 → central_in (central_numbers c) ≡ c
unfolding central_in central_numbers rows tabulate
central-stored-again c count = ap (λ (l : List ℕ). record { p = c.p; ra = c.ra; fl = c.fl; em = c.em; registers = l; stop = c.stop }) (tabulate-own 0 24 c.registers count)

module _ (r : MachineRecord) (registers : length r.central.registers ≡ 24) (channels : length r.channels ≡ 12)
    (processors : length r.processors ≡ 10) where
  channels-again : tabulate 12 (λ i. channel_in (channel_numbers (channel_at r.channels i)) 0) ≡ r.channels
  channels-again =
      tabulate-of (λ i. channel_in (channel_numbers (channel_at r.channels i)) 0) disconnected 12 r.channels channels
      (λ i h. channel-stored-again (channel_at r.channels i))

  pub machine-stored-again : machine_in (machine_numbers r) ≡ r
  unfolding machine_in machine_numbers central_in central_numbers rows tabulate
  machine-stored-again =
      let x = tabulate-own 0 24 r.central.registers registers in
      let q = tabulate-own idle 10 r.processors processors in
      ap (λ (l : List ℕ). record {
        central = record { p = r.central.p; ra = r.central.ra; fl = r.central.fl; em = r.central.em; registers = l; stop = r.central.stop };
        clock = r.clock;
        channels = tabulate 12 (λ i. channel_in (channel_numbers (channel_at r.channels i)) 0);
        processors = tabulate 10 (λ i. processor_at r.processors i);
      }) x
      ∙ ap (λ (l : List Channel). record { central = r.central; clock = r.clock; channels = l; processors = tabulate 10 (λ i. processor_at r.processors i) }) channels-again
      ∙ ap (λ (l : List Processor). record { central = r.central; clock = r.clock; channels = r.channels; processors = l }) q
