-- The device calls, by document 01, "Rounds, stints, devices" and "Who can be turned down".
use Rattle.std.specs.Prelude.{ℕ, false, not, ◌&&◌, cond, ◌≡◌, ltb, Bool, Result, Ok, Err}
use Rattle.base_outcome.specs.Numbers.{refusal_number, verdict_number}
use Rattle.base_outcome.specs.declared.refusal.Refusal.{Refusal}
use Rattle.base_outcome.specs.Verdict.{Verdict}
use Rattle.peripheral_channel.specs.declared.record.Channel.{Channel}
use Rattle.whole_device.specs.declared.calls.Taken.{Taken}
use Rattle.whole_device.specs.declared.calls.TakenFrom.{TakenFrom}
use Rattle.peripheral_channel.specs.Codes.{filled, disconnected}
use Rattle.peripheral_channel.specs.Fits.{channel_fits}

-- the verdict on a put or a drop, and the channel
pub record DeviceAnswer : Type 0 where
  pub verdict : Verdict
  pub channel : Channel

-- what the host gets back of a put or a drop: the verdict's number, and the verdict with the channel
pub record DeviceAnswered : Type 0 where
  pub number : ℕ
  pub answer : DeviceAnswer

abbrev pub device_answered : Verdict → Channel → DeviceAnswered
device_answered v c = record { number = verdict_number v; answer = record { verdict = v; channel = c } }

-- 0 for a word that is taken
abbrev pub taken_number : Result Taken Refusal → ℕ
taken_number (Ok taken) = 0
taken_number (Err r) = refusal_number r

-- what is taken, and the channel
pub record TakeAnswer : Type 0 where
  pub verdict : Result Taken Refusal
  pub channel : Channel

-- the same of a take, by the number of what is taken
pub record TakeAnswered : Type 0 where
  pub number : ℕ
  pub answer : TakeAnswer

abbrev pub take_answered : Result Taken Refusal → Channel → TakeAnswered
take_answered v c = record { number = taken_number v; answer = record { verdict = v; channel = c } }

-- "After a refusal the state comes back equal"
abbrev pub refused : Refusal → Channel → DeviceAnswered
refused r c = device_answered (Err r) c

abbrev pub take_refused : Refusal → Channel → TakeAnswered
take_refused r c = take_answered (Err r) c

-- the answer of a call on this channel by value, which hands back a channel where it is carried out
abbrev pub device_answer_to : Channel → Result Channel Refusal → DeviceAnswered
device_answer_to before (Ok after) = device_answered (Ok tt) after
device_answer_to before (Err r) = refused r before

abbrev pub take_answer_to : Channel → Result TakenFrom Refusal → TakeAnswered
take_answer_to before (Ok after) = take_answered (Ok after.taken) after.channel
take_answer_to before (Err r) = take_refused r before

abbrev pub taken : ℕ → Bool → Taken
taken word mark = record { word = word; is_function = mark }

-- "put (active, empty)": "5 record value over its width", which is a channel's word over 12 bits; "13 word over 4,095; 14 put unmet";
-- "Lowest number first". "72 and a put clear the mark".
unfoldable pub put_of : Channel → ℕ → DeviceAnswered
put_of c word =
    cond (not (channel_fits c)) (refused Refusal.RecordValue c)
    (cond (ltb 4095 word) (refused Refusal.DeviceWord c)
    (cond (c.active && not c.full) (device_answered (Ok tt) (filled word false))
    (refused Refusal.PutUnmet c)))

-- "take (active, full)": 5, then "15 take unmet".
-- "Emptying zeroes word and mark"; "Taking a function also makes the channel inactive."
unfoldable pub take_of : Channel → TakeAnswered
take_of c =
    cond (not (channel_fits c)) (take_refused Refusal.RecordValue c)
    (cond (c.active && c.full)
    (take_answered (Ok (taken c.word c.mark)) (record { active = not c.mark; full = false; mark = false; word = 0 }))
    (take_refused Refusal.TakeUnmet c))

-- "drop (any: inactive, empty)": 5, and no other number refuses it
unfoldable pub drop_of : Channel → DeviceAnswered
drop_of c = cond (not (channel_fits c)) (refused Refusal.RecordValue c) (device_answered (Ok tt) disconnected)

-- "The device calls alter the channel record that the host lends": c before the call, and d after it, where v is the verdict.
abbrev pub Puts : Channel → ℕ → Verdict → Channel → Type 0
Puts c word v d = device_answered v d ≡ put_of c word

abbrev pub Takes : Channel → Result Taken Refusal → Channel → Type 0
Takes c v d = take_answered v d ≡ take_of c

abbrev pub Drops : Channel → Verdict → Channel → Type 0
Drops c v d = device_answered v d ≡ drop_of c
