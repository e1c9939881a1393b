-- What the peripheral codes 70, 72 and 74 to 77 do to a channel, by document 01, "Peripheral turn". `None`: "Unmet, the turn changes
-- nothing (a wait)."
use Rattle.std.specs.Prelude.{ℕ, Bool, true, false, not, ◌&&◌, cond, Option, Some, None}
use Rattle.peripheral_channel.specs.declared.record.Channel.{Channel}

-- "Emptying zeroes word and mark"
abbrev pub emptied : Channel → Channel
emptied c = record { active = c.active; full = false; mark = false; word = 0 }

-- active and full, with this word, marked or not
abbrev pub filled : ℕ → Bool → Channel
filled word mark = record { active = true; full = true; mark = mark; word = word }

-- inactive and empty
abbrev pub disconnected : Channel
disconnected = record { active = false; full = false; mark = false; word = 0 }

-- "70 needs active and full, and empties"
unfoldable pub channel_input : Channel → Option Channel
channel_input c = cond (c.active && c.full) (Some (emptied c)) None

-- "72 needs active and empty, and fills"; "72 and a put clear the mark"
unfoldable pub channel_output : Channel → ℕ → Option Channel
channel_output c word = cond (c.active && not c.full) (Some (filled word false)) None

-- "74, 76, 77 need inactive"; "74 activates only"
unfoldable pub activate_of : Channel → Option Channel
activate_of c = cond c.active None (Some (record { active = true; full = c.full; mark = c.mark; word = c.word }))

-- "75 needs active, empties and makes inactive"
unfoldable pub disconnect_of : Channel → Option Channel
disconnect_of c = cond c.active (Some disconnected) None

-- "74, 76, 77 need inactive"; "76, 77 activate, fill and mark"
unfoldable pub function_of : Channel → ℕ → Option Channel
function_of c word = cond c.active None (Some (filled word true))
