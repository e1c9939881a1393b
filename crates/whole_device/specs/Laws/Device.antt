-- What a refused call leaves, and what becomes of a word that is put and of a function.
use Rattle.std.specs.Prelude.{ℕ, ◌^◌, ◌<◌, Bool, true, false, not, ◌&&◌, ◌≡◌, refl, ltb, Option, Some, None, Ok, Err}
use Rattle.std.proofs.Common.{sym, ap, ◌∙◌, arith, ltb-false, lt-ltb}
use Rattle.base_logic.specs.Laws.Choice.{of-cond}
use Rattle.base_outcome.specs.declared.refusal.Refusal.{Refusal}
use Rattle.base_outcome.specs.Verdict.{Verdict}
use Rattle.peripheral_channel.specs.declared.record.Channel.{Channel}
use Rattle.peripheral_channel.specs.Codes.{filled, disconnected, channel_output, function_of}
use Rattle.peripheral_channel.specs.Fits.{channel_fits}
use Rattle.whole_device.specs.Device.{DeviceAnswered, TakeAnswered, device_answered, taken, take_answered, refused, take_refused, put_of, take_of, drop_of}

-- "After a refusal the state comes back equal"
abbrev LeavesAt : Channel → Refusal → DeviceAnswered → Type 0
LeavesAt c r a = a.answer.verdict ≡ Err r → a.answer.channel ≡ c

abbrev TakeLeavesAt : Channel → Refusal → TakeAnswered → Type 0
TakeLeavesAt c r a = a.answer.verdict ≡ Err r → a.answer.channel ≡ c

accepted-not-refused : {B : Type 0} (r : Refusal) → ◌≡◌ {A = Verdict} (Ok tt) (Err r) → B
accepted-not-refused r e = let z : ◌≡◌ {A = ℕ} 0 1 = cc in absurd (omega arith)

word-not-refused : {B : Type 0} (word : ℕ) (mark : Bool) (r : Refusal) → Ok (taken word mark) ≡ Err r → B
word-not-refused word mark r e = let z : ◌≡◌ {A = ℕ} 0 1 = cc in absurd (omega arith)

pub put_refused : (c : Channel) (word : ℕ) (r : Refusal) → (put_of c word).answer.verdict ≡ Err r → (put_of c word).answer.channel ≡ c
unfolding put_of
put_refused c word r =
    of-cond (LeavesAt c r) (not (channel_fits c)) (λ _ e. refl)
    (λ _. of-cond (LeavesAt c r) (ltb 4095 word) (λ _ e. refl)
    (λ _. of-cond (LeavesAt c r) (c.active && not c.full) (λ _ e. accepted-not-refused r e) (λ _ e. refl)))

pub take-refused : (c : Channel) (r : Refusal) → (take_of c).answer.verdict ≡ Err r → (take_of c).answer.channel ≡ c
unfolding take_of
take-refused c r =
    of-cond (TakeLeavesAt c r) (not (channel_fits c)) (λ _ e. refl)
    (λ _. of-cond (TakeLeavesAt c r) (c.active && c.full) (λ _ e. word-not-refused c.word c.mark r e) (λ _ e. refl))

pub drop-refused : (c : Channel) (r : Refusal) → (drop_of c).answer.verdict ≡ Err r → (drop_of c).answer.channel ≡ c
unfolding drop_of
drop-refused c r = of-cond (LeavesAt c r) (not (channel_fits c)) (λ _ e. refl) (λ _ e. accepted-not-refused r e)

-- so the answer of a refused call is that of the channel before it
pub put_stays : (c d : Channel) (word : ℕ) (r : Refusal) → device_answered (Err r) d ≡ put_of c word → refused r c ≡ put_of c word
put_stays c d word r e =
    let same = put_refused c word r (sym (ap (λ (a : DeviceAnswered). a.answer.verdict) e)) in
    let h : d ≡ c = ap (λ (a : DeviceAnswered). a.answer.channel) e ∙ same in
    rw h at e

pub take_stays : (c d : Channel) (r : Refusal) → take_answered (Err r) d ≡ take_of c → take_refused r c ≡ take_of c
take_stays c d r e =
    let same = take-refused c r (sym (ap (λ (a : TakeAnswered). a.answer.verdict) e)) in
    let h : d ≡ c = ap (λ (a : TakeAnswered). a.answer.channel) e ∙ same in
    rw h at e

pub drop_stays : (c d : Channel) (r : Refusal) → device_answered (Err r) d ≡ drop_of c → refused r c ≡ drop_of c
drop_stays c d r e =
    let same = drop-refused c r (sym (ap (λ (a : DeviceAnswered). a.answer.verdict) e)) in
    let h : d ≡ c = ap (λ (a : DeviceAnswered). a.answer.channel) e ∙ same in
    rw h at e

-- an active and full channel with a word of 12 bits gives the word and the mark
pub filled-taken : (word : ℕ) (mark : Bool) → word < 2 ^ 12
    → take_of (filled word mark)
    ≡ take_answered (Ok (taken word mark)) (record { active = not mark; full = false; mark = false; word = 0 })
unfolding take_of
filled-taken word mark h = rw (lt-ltb word (2 ^ 12) h)

refused-not-accepted : {B : Type 0} (r : Refusal) → ◌≡◌ {A = Verdict} (Err r) (Ok tt) → B
refused-not-accepted r e = let z : ◌≡◌ {A = ℕ} 0 1 = cc in absurd (omega arith)

-- an accepted put has a word of 12 bits, and fills the channel with it, unmarked
pub record ChannelFilled (word : ℕ) (c : Channel) : Type 0 where
  pub width : word < 2 ^ 12
  pub is : c ≡ filled word false

abbrev FilledWhere : ℕ → DeviceAnswered → Type 0
FilledWhere word a = a.answer.verdict ≡ Ok tt → ChannelFilled word a.answer.channel

pub put-fills : (c : Channel) (word : ℕ) → (put_of c word).answer.verdict ≡ Ok tt → ChannelFilled word (put_of c word).answer.channel
unfolding put_of
put-fills c word =
    of-cond (FilledWhere word) (not (channel_fits c)) (λ _ e. refused-not-accepted _ e)
    (λ _. of-cond (FilledWhere word) (ltb 4095 word) (λ _ e. refused-not-accepted _ e)
    (λ h. of-cond (FilledWhere word) (c.active && not c.full)
    (λ _ e. let w = ltb-false 4095 word h in record { width = omega arith; is = refl })
    (λ _ e. refused-not-accepted _ e)))

-- a word is taken as it was put and without a mark, and the channel is then active and empty
pub put-taken : (c : Channel) (word : ℕ) → (put_of c word).answer.verdict ≡ Ok tt
    → take_of (put_of c word).answer.channel
    ≡ take_answered (Ok (taken word false)) (record { active = true; full = false; mark = false; word = 0 })
put-taken c word e = let f = put-fills c word e in rw f.is (filled-taken word false f.width)

abbrev channel_of : Option Channel → Channel
channel_of None = disconnected
channel_of (Some c) = c

-- the channel of a code that does not wait
changed : (c d : Channel) → Some c ≡ Some d → c ≡ d
changed c d e = ap channel_of e

wait-is-no-change : {B : Type 0} (c : Channel) → None ≡ Some c → B
wait-is-no-change c e = let z : ◌≡◌ {A = ℕ} 0 1 = cc in absurd (omega arith)

abbrev ChangesTo : Channel → Channel → Option Channel → Type 0
ChangesTo c d r = r ≡ Some d → c ≡ d

function-fills : (c d : Channel) (word : ℕ) → function_of c word ≡ Some d → filled word true ≡ d
unfolding function_of
function-fills c d word =
    of-cond (ChangesTo (filled word true) d) c.active (λ _ e. wait-is-no-change d e) (λ _ e. changed (filled word true) d e)

-- a function is taken with its mark, and the channel is then inactive
pub function-taken : (c d : Channel) (word : ℕ) → word < 2 ^ 12 → function_of c word ≡ Some d
    → take_of d ≡ take_answered (Ok (taken word true)) disconnected
function-taken c d word h e = rw (← function-fills c d word e) (filled-taken word true h)

output-fills : (c d : Channel) (word : ℕ) → channel_output c word ≡ Some d → filled word false ≡ d
unfolding channel_output
output-fills c d word =
    of-cond (ChangesTo (filled word false) d) (c.active && not c.full) (λ _ e. changed (filled word false) d e)
    (λ _ e. wait-is-no-change d e)

-- a word of 72 is taken without a mark, and the channel is then active and empty
pub output-taken : (c d : Channel) (word : ℕ) → word < 2 ^ 12 → channel_output c word ≡ Some d
    → take_of d ≡ take_answered (Ok (taken word false)) (record { active = true; full = false; mark = false; word = 0 })
output-taken c d word h e = rw (← output-fills c d word e) (filled-taken word false h)
