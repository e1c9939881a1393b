-- The results of a schedule's stints and of a take, as flat numbers.
use Rattle.std.specs.Prelude.{List, [], ◌∷◌, ◌≡◌, ℕ, ◌≤◌, length, get_or, Result, Ok, Err}
use Rattle.std.proofs.lemmas.List.Edits.{sets}
use Rattle.base_outcome.specs.declared.refusal.Refusal.{Refusal}
use Rattle.whole_device.specs.Device.{TakeAnswered}
use Rattle.whole_device.specs.declared.calls.Taken.{Taken}
use Rattle.whole_device.specs.declared.calls.TakenFrom.{TakenFrom}
use Rattle.peripheral_machine.specs.Numbers.{flag}
use Rattle.host_record.specs.Layout.{channel_numbers}

-- the turns made and the stop of stint i
abbrev pub stint_row : List ℕ → List ℕ → ℕ → List ℕ
stint_row turns stops i = get_or turns i 0 ∷ get_or stops i 0 ∷ []

-- of a take: the number, the channel and the result slice
pub record TakeLeft : Type 0 where
  pub number : ℕ
  pub channel : List ℕ
  pub result : List ℕ

abbrev pub take_left : ℕ → List ℕ → List ℕ → TakeLeft
take_left n c out = record { number = n; channel = c; result = out }

-- "After a refusal the state comes back equal": the channel as it was lent
abbrev pub taken_kept : Result Taken Refusal → List ℕ → List ℕ → List ℕ
taken_kept (Ok taken) numbers given = numbers
taken_kept (Err r) numbers given = given

-- the word, and 1 for a function, from the first entry on; after a refusal the result slice as it was lent, since it holds no counts
abbrev pub taken_result : Result Taken Refusal → List ℕ → List ℕ
taken_result (Ok taken) out = sets out 0 (taken.word ∷ flag taken.is_function ∷ [])
taken_result (Err r) out = out

abbrev pub take_by : List ℕ → List ℕ → TakeAnswered → TakeLeft
take_by c out a =
    take_left a.number (taken_kept a.answer.verdict (channel_numbers a.answer.channel) c) (taken_result a.answer.verdict out)

-- where a take may store: the channel's four numbers, if there is a word
pub record TakeStorable (channel result : List ℕ) (answer : Result TakenFrom Refusal) : Type 0 where
  pub word : {after : TakenFrom} → answer ≡ Ok after → length channel ≡ 4
  pub room : 2 ≤ length result
