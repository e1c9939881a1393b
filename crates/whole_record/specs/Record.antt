-- The machine's record and number 5 over the whole of it, by document 01, "Memory and records", "Peripheral turn" and "Who can be turned
-- down".
use Rattle.std.specs.Prelude.{Bool, ◌&&◌, List, ℕ, ◌^◌, ltb, get_or}
use Rattle.peripheral_channel.specs.Codes.{disconnected}
use Rattle.peripheral_channel.specs.Fits.{channel_fits}
use Rattle.peripheral_channel.specs.declared.record.Channel.{Channel}
use Rattle.base_lists.specs.Indexed.{all_below}
use Rattle.central_record.specs.Record.{record_fits}
use Rattle.base_outcome.specs.Numbers.{peripheral_stop_listed}
use Rattle.peripheral_machine.specs.declared.numbers.Processor.{Processor}
use Rattle.whole_record.specs.declared.record.MachineRecord.{MachineRecord}

-- the default of `get_or`, which is never read: a record has ten processors
abbrev pub idle : Processor
idle = record { p = 0; a = 0; stop = 0 }

abbrev pub processor_at : List Processor → ℕ → Processor
processor_at l n = get_or l n idle

abbrev pub channel_at : List Channel → ℕ → Channel
channel_at l i = get_or l i disconnected

-- "P counts modulo 4096", "A by the 18-bit sum", and a stop that is listed
unfoldable pub processor_fits : Processor → Bool
processor_fits q = ltb q.p (2 ^ 12) && ltb q.a (2 ^ 18) && peripheral_stop_listed q.stop

abbrev pub processor_fits_at : List Processor → ℕ → Bool
processor_fits_at l n = processor_fits (processor_at l n)

unfoldable pub processors_fit : List Processor → Bool
processors_fit l = all_below 10 (processor_fits_at l)

abbrev pub channel_fits_at : List Channel → ℕ → Bool
channel_fits_at l i = channel_fits (channel_at l i)

unfoldable pub channels_fit : List Channel → Bool
channels_fit l = all_below 12 (channel_fits_at l)

-- 5 "record value over its width, a stop not listed for that processor, stray EM bit, nonzero B0, or RA + FL past the memory": none of
-- these, with a central memory of so many words. "clock + 1 modulo 4096"
unfoldable pub machine_fits : ℕ → MachineRecord → Bool
machine_fits words r =
    record_fits words r.central && ltb r.clock (2 ^ 12) && channels_fit r.channels && processors_fit r.processors
