-- A channel whose word has 12 bits keeps that through the device calls.
use Rattle.std.specs.Prelude.{ℕ, not, ◌&&◌, ltb}
use Rattle.std.proofs.Common.{arith, ltb-false}
use Rattle.base_logic.specs.Laws.Choice.{of-cond}
use Rattle.peripheral_channel.specs.declared.record.Channel.{Channel}
use Rattle.peripheral_channel.specs.Laws.Width.{ChannelFits}
use Rattle.peripheral_channel.specs.Fits.{channel_fits}
use Rattle.whole_device.specs.Device.{DeviceAnswered, TakeAnswered, put_of, take_of, drop_of}

abbrev FitsAnswer : DeviceAnswered → Type 0
FitsAnswer a = ChannelFits a.answer.channel

-- a put checks the width of the word itself
pub put-fits : (c : Channel) (word : ℕ) → ChannelFits c → ChannelFits (put_of c word).answer.channel
unfolding put_of
put-fits c word h =
    of-cond FitsAnswer (not (channel_fits c)) (λ e. h)
    (λ e. of-cond FitsAnswer (ltb 4095 word) (λ e. h)
    (λ e. of-cond FitsAnswer (c.active && not c.full) (λ _. let w = ltb-false 4095 word e in omega arith) (λ e. h)))

abbrev FitsTake : TakeAnswered → Type 0
FitsTake a = ChannelFits a.answer.channel

pub take-fits : (c : Channel) → ChannelFits c → ChannelFits (take_of c).answer.channel
unfolding take_of
take-fits c h =
    of-cond FitsTake (not (channel_fits c)) (λ e. h) (λ e. of-cond FitsTake (c.active && c.full) (λ e. omega arith) (λ e. h))

pub drop-fits : (c : Channel) → ChannelFits c → ChannelFits (drop_of c).answer.channel
unfolding drop_of
drop-fits c h = of-cond FitsAnswer (not (channel_fits c)) (λ e. h) (λ e. omega arith)
