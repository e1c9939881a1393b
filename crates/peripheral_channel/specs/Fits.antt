-- Number 5 of a channel.
use Rattle.std.specs.Prelude.{Bool, ◌^◌, ltb}
use Rattle.peripheral_channel.specs.declared.record.Channel.{Channel}

-- 5 "record value over its width": "Channels 00 to 13 have: active, full, a function mark, a 12-bit word."
abbrev pub channel_fits : Channel → Bool
channel_fits c = ltb c.word (2 ^ 12)
