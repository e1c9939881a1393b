-- The device calls, on a channel of four numbers.
use Rattle.std.specs.Prelude.{cond, List, ℕ, leb, length, Ok, Err}
use Rattle.base_outcome.specs.declared.refusal.Refusal.TheVariants as Refusal
use Rattle.base_outcome.specs.Verdict.{Verdict}
use Rattle.whole_device.specs.Device.{DeviceAnswered, put_of, take_of, drop_of}
use Rattle.peripheral_channel.specs.Fits.{channel_fits}
use Rattle.peripheral_channel.specs.declared.record.Channel.{Channel}
use Rattle.host_answer.specs.Back.{Back, back, kept, short_number}
use Rattle.host_record.specs.Layout.{channel_numbers}
use Rattle.host_record.specs.Lent.{channel_lent}
use Rattle.host_answer.specs.Results.{TakeLeft, take_left, take_by}

abbrev pub channel_left_by : List ℕ → DeviceAnswered → Back
channel_left_by c a = back a.number (kept a.answer.verdict (channel_numbers a.answer.channel) c)

unfoldable pub channel_put : List ℕ → ℕ → Back
channel_put c word = channel_left_by c (put_of (channel_lent c) word)

unfoldable pub channel_drop : List ℕ → Back
channel_drop c = channel_left_by c (drop_of (channel_lent c))

-- number 5 of a take
abbrev pub channel_verdict : Channel → Verdict
channel_verdict c = cond (channel_fits c) (Ok tt) (Err Refusal.RecordValue)

unfoldable pub channel_take : List ℕ → List ℕ → TakeLeft
channel_take c out =
    cond (leb 2 (length out)) (take_by c out (take_of (channel_lent c)))
    (take_left (short_number (channel_verdict (channel_lent c))) c out)
