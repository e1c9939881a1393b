-- The calls on the whole machine by the results of their parts.
use Rattle.std.specs.Prelude.{Bool, false, true, List, [], ◌∷◌, ◌≡◌, refl, ℕ, ◌≤◌, ◌<◌, length, Result, Ok, Err, IsOk}
use Rattle.std.proofs.Math.Path.{sym, ap}
use Rattle.std.proofs.Common.{◌∙◌, le-leb}
use Rattle.std.proofs.lemmas.Bool.{lt-leb}
use Rattle.std.proofs.lemmas.List.Edits.{sets}
use Rattle.base_outcome.specs.Verdict.{Verdict}
use Rattle.base_outcome.specs.Numbers.{refusal_number}
use Rattle.base_outcome.specs.declared.refusal.Refusal.{Refusal}
use Rattle.whole_verdict.specs.Verdict.{machine_verdict, turn_verdict, run_verdict}
use Rattle.whole_verdict.specs.Laws.Verdict.{machine-accepted, peripheral-turn-accepted, run-accepted}
use Rattle.whole_record.specs.declared.record.MachineRecord.{MachineRecord}
use Rattle.whole_calls.specs.Call.{TurnAnswer, RunAnswer, Left, MachineAnswered, turn_answer_to, run_answer_to, machine_answer_by, turn_given, peripheral_turn_answer, run_given, run_answer}
use Rattle.whole_calls.specs.declared.call.RoundsMade.{RoundsMade}
use Rattle.host_record.specs.Layout.{machine_numbers}
use Rattle.host_record.specs.Lent.{machine_lent}
use Rattle.host_record.proofs.Lent.{machine-length}
use Rattle.host_answer.specs.Back.{Back, back, back_of, short_number}
use Rattle.host_calls.specs.Machine.{machine_left, machine_left_by, processor_turn, run_left, run_left_by, machine_run}

-- the verdict that a call answers with
answered : {A B : Type 0} (answer : Verdict → B → A) (verdict : A → Verdict) → ((v : Verdict) (b : B) → verdict (answer v b) ≡ v)
    → (v : Verdict) (lent after : Left B) → verdict (machine_answer_by answer v lent after).answer ≡ v
answered answer verdict is (Ok _) lent after = is (Ok tt) after.value
answered answer verdict is (Err x) lent after = is (Err x) lent.value

module _ (c m r d n : List ℕ) (k : MachineRecord) (given : k ≡ machine_lent r) (j : ℕ) where
  -- the record of an accepted turn or run is stored into a slice of its length
  stores : machine_verdict true c m k ≡ Ok tt → length r ≡ 108
  stores v = machine-length (length c) r (rw given at (machine-accepted c m k v).fits)

  turned : (answer : Result MachineRecord Refusal) → IsOk answer → (turn_answer_to d n k answer).answer.verdict ≡ Ok tt
  turned (Ok after) ok = refl
  turned (Err x) ok = let z : ◌≡◌ {A = Bool} false true = ok in cc

  pub peripheral-turn-stores : (answer : Result MachineRecord Refusal) → turn_answer_to d n k answer ≡ peripheral_turn_answer c m k j
      → IsOk answer → length r ≡ 108
  unfolding peripheral_turn_answer
  peripheral-turn-stores answer e ok =
      stores (peripheral-turn-accepted c m k j
      (sym (answered turn_given (λ (x : TurnAnswer). x.verdict) (λ _ _. refl) (turn_verdict c m k j) _ _)
      ∙ sym (ap (λ (x : MachineAnswered TurnAnswer). x.answer.verdict) e)
      ∙ turned answer ok)).1

  pub run-stores : (answer : Result RoundsMade Refusal) → run_answer_to d n k answer ≡ run_answer c m k j → (o : RoundsMade) → answer ≡ Ok o → length r ≡ 108
  unfolding run_answer
  run-stores answer e o ok =
      stores (run-accepted c m k j
      (sym (answered run_given (λ (x : RunAnswer). x.verdict) (λ _ _. refl) (run_verdict c m k j) _ _)
      ∙ sym (ap (λ (x : MachineAnswered RunAnswer). x.answer.verdict) e)
      ∙ ap (λ (a : Result RoundsMade Refusal). (run_answer_to d n k a).answer.verdict) ok)).1

  -- the answer of an entry point, and the record kept
  kept-machine : (answer : Result MachineRecord Refusal) (b : Back) → b ≡ back_of machine_numbers answer r
      → machine_left b.number d n b.lent ≡ machine_left_by r (turn_answer_to d n k answer)
  kept-machine (Ok after) b h = ap (λ (b : Back). machine_left b.number d n b.lent) h
  kept-machine (Err x) b h = ap (λ (b : Back). machine_left b.number d n b.lent) h

  pub peripheral-turn-is : (s : List ℕ) (number : ℕ) (answer : Result MachineRecord Refusal)
      → turn_answer_to d n k answer ≡ peripheral_turn_answer c m k j
      → back number s ≡ back_of machine_numbers answer r → machine_left number d n s ≡ processor_turn c m r j
  unfolding processor_turn
  peripheral-turn-is s number answer e h =
      kept-machine answer (back number s) h
      ∙ ap (machine_left_by r) (e ∙ ap (λ (y : MachineRecord). peripheral_turn_answer c m y j) given)

  module _ (out : List ℕ) (room : 1 ≤ length out) (answer : Result RoundsMade Refusal) (e : run_answer_to d n k answer ≡ run_answer c m k j) where
    run-as : run_left_by r out (run_answer_to d n k answer) ≡ machine_run c m r j out
    unfolding machine_run
    run-as = rw (le-leb 1 (length out) room) (ap (run_left_by r out) (e ∙ ap (λ (y : MachineRecord). run_answer c m y j) given))

    pub run-made : (o : RoundsMade) (s : List ℕ) → answer ≡ Ok o → s ≡ machine_numbers o.machine
        → run_left 0 d n s (sets out 0 (o.rounds ∷ [])) ≡ machine_run c m r j out
    run-made o s ok h = rw h (sym (ap (λ (a : Result RoundsMade Refusal). run_left_by r out (run_answer_to d n k a)) ok) ∙ run-as)

    pub run-refused : (x : Refusal) (number : ℕ) → answer ≡ Err x → number ≡ refusal_number x
        → run_left number d n r (sets out 0 (0 ∷ [])) ≡ machine_run c m r j out
    run-refused x number why h = rw h (sym (ap (λ (a : Result RoundsMade Refusal). run_left_by r out (run_answer_to d n k a)) why) ∙ run-as)

-- a run without room for the result
pub run_short : (c m r out : List ℕ) (k : MachineRecord) (j number : ℕ) (v : Verdict) → k ≡ machine_lent r → length out < 1
    → v ≡ machine_verdict true c m k → number ≡ short_number v → run_left number c m r out ≡ machine_run c m r j out
unfolding machine_run
run_short c m r out k j number v given none e h = rw (lt-leb 1 (length out) none, ← given, ← e, h)
