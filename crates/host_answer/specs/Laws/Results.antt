-- Results as code stores them.
use Rattle.std.specs.Prelude.{List, [], ◌∷◌, ◌≡◌, ℕ, suc, ◌+◌, ◌*◌, set, Ok, Err}
use Rattle.std.proofs.Common.{arith}
use Rattle.std.proofs.lemmas.List.Edits.{sets}
use Rattle.base_outcome.specs.Numbers.{refusal_number}
use Rattle.base_outcome.specs.declared.refusal.Refusal.{Refusal}
use Rattle.whole_device.specs.Device.{TakeAnswer, take_answered}
use Rattle.whole_device.specs.declared.calls.Taken.{Taken}
use Rattle.peripheral_machine.specs.Numbers.{flag}
use Rattle.host_record.specs.Layout.{channel_numbers}
use Rattle.host_answer.specs.Results.{take_left, take_by}
use Rattle.base_lists.specs.Written.{Stores}

-- one pair of the result, as code stores it
pub pair-stored : (l : List ℕ) (i : ℕ) {v w a b : ℕ} → v ≡ a → w ≡ b
    → Stores l (0 + 2 * i) (a ∷ b ∷ []) (set (set l (2 * i) v) (2 * i + 1) w)
pair-stored l i e h =
    let z : 0 + 2 * i ≡ 2 * i = omega arith in
    let s : 2 * i + 1 ≡ suc (2 * i) = omega arith in
    record { is = rw (e, h, z, s) }

-- what a take stores
module _ (c d out : List ℕ) (a : TakeAnswer) where
  pub taken_is : (t : Taken) (v : ℕ) → a.verdict ≡ Ok t → d ≡ channel_numbers a.channel → v ≡ flag t.is_function
      → take_left 0 d (sets out 0 (t.word ∷ v ∷ [])) ≡ take_by c out (take_answered a.verdict a.channel)
  taken_is t v e h f = rw (e, h, f)

  pub taken_refused : (r : Refusal) (n : ℕ) → a.verdict ≡ Err r → n ≡ refusal_number r
      → take_left n c out ≡ take_by c out (take_answered a.verdict a.channel)
  taken_refused r n e h = rw (e, h)
