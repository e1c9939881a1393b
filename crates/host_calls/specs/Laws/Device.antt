-- The device calls by the results of their parts: what an accepted one stores, it stores into the four numbers of a channel.
use Rattle.std.specs.Prelude.{Bool, true, false, not, cond, List, ◌≡◌, refl, ℕ, ◌≤◌, ◌<◌, length, Result, Ok, Err, IsOk}
use Rattle.std.proofs.Common.{sym, ◌∙◌, arith, le-leb}
use Rattle.std.proofs.Math.Path.{ap}
use Rattle.std.proofs.lemmas.Bool.{lt-leb}
use Rattle.base_outcome.specs.declared.refusal.Refusal.{Refusal}
use Rattle.base_outcome.specs.declared.refusal.Refusal.TheVariants as Because
use Rattle.base_outcome.specs.Verdict.{Verdict}
use Rattle.whole_device.specs.Device.{DeviceAnswered, device_answer_to, device_answered, TakeAnswered, take_answer_to, take_answered, put_of, take_of, drop_of}
use Rattle.whole_device.specs.declared.calls.Taken.{Taken}
use Rattle.whole_device.specs.declared.calls.TakenFrom.{TakenFrom}
use Rattle.peripheral_channel.specs.Fits.{channel_fits}
use Rattle.peripheral_channel.specs.declared.record.Channel.{Channel}
use Rattle.host_answer.specs.Back.{Back, back_of, short_number}
use Rattle.host_record.specs.Layout.{channel_numbers}
use Rattle.host_record.specs.Lent.{channel_lent}
use Rattle.host_answer.specs.Results.{TakeLeft, take_left, take_by, TakeStorable}
use Rattle.host_record.specs.Laws.Lent.{channel-length}
use Rattle.host_calls.specs.Device.{channel_left_by, channel_put, channel_drop, channel_verdict, channel_take}

-- a test whose refusal is first
first-test : (t : Bool) (c : Channel) (a : DeviceAnswered)
    → (cond (not t) (device_answered (Err Because.RecordValue) c) a).answer.verdict ≡ Ok tt → t ≡ true
first-test true c a e = refl
first-test false c a e = let z : ◌≡◌ {A = ℕ} 0 1 = cc in absurd (omega arith)

first-test-of-take : (t : Bool) (c : Channel) (a : TakeAnswered) (taken : Taken)
    → (cond (not t) (take_answered (Err Because.RecordValue) c) a).answer.verdict ≡ Ok taken → t ≡ true
first-test-of-take true c a taken e = refl
first-test-of-take false c a taken e = let z : ◌≡◌ {A = ℕ} 0 1 = cc in absurd (omega arith)

accepted : (k : Channel) (answer : Result Channel Refusal) → IsOk answer → (device_answer_to k answer).answer.verdict ≡ Ok tt
accepted k (Ok d) ok = refl
accepted k (Err x) ok = let z : ◌≡◌ {A = Bool} false true = ok in cc

kept-channel : (r : List ℕ) (k : Channel) (answer : Result Channel Refusal) → back_of channel_numbers answer r ≡ channel_left_by r (device_answer_to k answer)
kept-channel r k (Ok d) = refl
kept-channel r k (Err x) = refl

module _ (r : List ℕ) (k : Channel) (given : k ≡ channel_lent r) where
  stores : channel_fits k ≡ true → length r ≡ 4
  stores h = channel-length r (rw given at h)

  module _ (answer : Result Channel Refusal) where
    pub put-stores : (word : ℕ) → device_answer_to k answer ≡ put_of k word → IsOk answer → length r ≡ 4
    unfolding put_of
    put-stores word e ok =
        stores (first-test (channel_fits k) k _ (sym (ap (λ (x : DeviceAnswered). x.answer.verdict) e) ∙ accepted k answer ok))

    pub drop-stores : device_answer_to k answer ≡ drop_of k → IsOk answer → length r ≡ 4
    unfolding drop_of
    drop-stores e ok =
        stores (first-test (channel_fits k) k _ (sym (ap (λ (x : DeviceAnswered). x.answer.verdict) e) ∙ accepted k answer ok))

    -- the answer of an entry point, and the channel kept
    module _ (b : Back) (h : b ≡ back_of channel_numbers answer r) where
      pub put_is : (word : ℕ) → device_answer_to k answer ≡ put_of k word → b ≡ channel_put r word
      unfolding channel_put
      put_is word e = h ∙ kept-channel r k answer ∙ ap (channel_left_by r) (e ∙ ap (λ (c : Channel). put_of c word) given)

      pub drop-is : device_answer_to k answer ≡ drop_of k → b ≡ channel_drop r
      unfolding channel_drop
      drop-is e = h ∙ kept-channel r k answer ∙ ap (channel_left_by r) (e ∙ ap drop_of given)

  module _ (out : List ℕ) where
    pub take-stores : (answer : Result TakenFrom Refusal) → take_answer_to k answer ≡ take_of k → 2 ≤ length out → TakeStorable r out answer
    unfolding take_of
    take-stores answer e room =
        record {
          word = λ {after} ok. stores
              (first-test-of-take (channel_fits k) k _ after.taken
              (sym (ap (λ (x : TakeAnswered). x.answer.verdict) e)
              ∙ ap (λ (a : Result TakenFrom Refusal). (take_answer_to k a).answer.verdict) ok));
          room = room;
        }

    pub take-is : (answer : Result TakenFrom Refusal) (l : TakeLeft) → 2 ≤ length out → take_answer_to k answer ≡ take_of k
        → ((before : Channel) → l ≡ take_by r out (take_answer_to before answer)) → l ≡ channel_take r out
    unfolding channel_take
    take-is answer l room e h = rw (le-leb 2 (length out) room) (h k ∙ ap (take_by r out) (e ∙ ap take_of given))

    pub taken-short : (number : ℕ) (v : Verdict) → length out < 2 → v ≡ channel_verdict k → number ≡ short_number v
        → take_left number r out ≡ channel_take r out
    unfolding channel_take
    taken-short number v none e h = rw (lt-leb 2 (length out) none, ← given, ← e, h)
