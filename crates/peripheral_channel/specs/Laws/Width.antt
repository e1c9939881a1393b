-- A channel whose word has 12 bits keeps that through the codes.
use Rattle.std.specs.Prelude.{ℕ, ◌^◌, ◌<◌, not, ◌&&◌, Option, Some, None}
use Rattle.std.proofs.Common.{arith}
use Rattle.base_logic.specs.Laws.Choice.{of-cond}
use Rattle.peripheral_channel.specs.declared.record.Channel.{Channel}
use Rattle.peripheral_channel.specs.Codes.{channel_input, channel_output, activate_of, disconnect_of, function_of}

-- "a 12-bit word"
abbrev pub ChannelFits : Channel → Type 0
ChannelFits c = c.word < 2 ^ 12

-- a wait leaves the channel that the code found
abbrev pub FitsChange : Option Channel → Type 0
FitsChange None = Unit {0}
FitsChange (Some c) = ChannelFits c

pub input-fits : (c : Channel) → FitsChange (channel_input c)
unfolding channel_input
input-fits c = of-cond FitsChange (c.active && c.full) (λ e. omega arith) (λ e. tt)

pub output-fits : (c : Channel) (word : ℕ) → word < 2 ^ 12 → FitsChange (channel_output c word)
unfolding channel_output
output-fits c word h = of-cond FitsChange (c.active && not c.full) (λ e. h) (λ e. tt)

pub activate-fits : (c : Channel) → ChannelFits c → FitsChange (activate_of c)
unfolding activate_of
activate-fits c h = of-cond FitsChange c.active (λ e. tt) (λ e. h)

pub disconnect-fits : (c : Channel) → FitsChange (disconnect_of c)
unfolding disconnect_of
disconnect-fits c = of-cond FitsChange c.active (λ e. omega arith) (λ e. tt)

pub function-fits : (c : Channel) (word : ℕ) → word < 2 ^ 12 → FitsChange (function_of c word)
unfolding function_of
function-fits c word h = of-cond FitsChange c.active (λ e. tt) (λ e. h)
