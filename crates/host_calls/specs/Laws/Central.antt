-- The calls on the central processor by the results of their parts.
use Rattle.std.specs.Prelude.{Bool, true, false, List, [], ◌∷◌, ◌≡◌, refl, ℕ, ◌≤◌, ◌<◌, length, Result, Ok, Err, IsOk}
use Rattle.std.proofs.Math.Path.{sym, ap}
use Rattle.std.proofs.Common.{◌∙◌, le-leb}
use Rattle.std.proofs.lemmas.Bool.{lt-leb}
use Rattle.std.proofs.lemmas.List.Edits.{sets}
use Rattle.base_outcome.specs.Numbers.{refusal_number}
use Rattle.base_outcome.specs.Verdict.{Verdict}
use Rattle.base_outcome.specs.declared.refusal.Refusal.{Refusal}
use Rattle.central_record.specs.Record.{host_verdict}
use Rattle.exchange_jump.specs.Accepted.{HostAccepted}
use Rattle.exchange_jump.specs.Laws.Verdicts.{host-accepted}
use Rattle.central_record.specs.declared.record.Central.{Central}
use Rattle.central_turn.specs.Turn.{stop_number}
use Rattle.single_stint.specs.declared.field.Ran.{Ran}
use Rattle.single_stint.specs.declared.stint.StintEnd.{StintEnd}
use Rattle.single_calls.specs.RecordCalls.{CentralMachine, CentralAnswered, answer_of, central_answer_to, central_answer_by, turn_answer, exchange_answer}
use Rattle.single_calls.specs.Turns.{Turned, TurnsAnswered, turns_answer_of, turns_answer_to, turns_answer_by, turns_answer}
use Rattle.single_calls.specs.Program.{program_answer_of, program_answer_to, program_answer}
use Rattle.single_calls.specs.Laws.RecordCalls.{exchange-host}
use Rattle.single_calls.specs.Laws.Turns.{turns-accepted}
use Rattle.host_record.specs.Layout.{central_numbers}
use Rattle.host_record.specs.Lent.{central_lent}
use Rattle.host_record.proofs.Lent.{central-length}
use Rattle.host_answer.specs.Back.{Back, back, back_of, short_number}
use Rattle.host_calls.specs.Central.{central_left, central_left_by, central_turn, central_exchange, turns_left, turns_left_by, central_turns, result_left, program_left, program_run}

verdict-of : (v : Verdict) (given after : CentralMachine) → (central_answer_by v given after).answer.verdict ≡ v
verdict-of (Ok _) given after = refl
verdict-of (Err r) given after = refl

turns-verdict-of : (v : Verdict) (given : CentralMachine) (after : Turned) → (turns_answer_by v given after).answer.verdict ≡ v
turns-verdict-of (Ok _) given after = refl
turns-verdict-of (Err r) given after = refl

accepted : (k : Central) (answer : Result Central Refusal) → IsOk answer → (answer_of k answer).verdict ≡ Ok tt
accepted k (Ok after) ok = refl
accepted k (Err x) ok = let z : ◌≡◌ {A = Bool} false true = ok in cc

kept-central : (n c : List ℕ) (k : Central) (answer : Result Central Refusal) (b : Back) → b ≡ back_of central_numbers answer c
    → central_left b.number n b.lent ≡ central_left_by c (central_answer_to n (answer_of k answer))
kept-central n c k (Ok after) b h = ap (λ (b : Back). central_left b.number n b.lent) h
kept-central n c k (Err x) b h = ap (λ (b : Back). central_left b.number n b.lent) h

module _ (m c n : List ℕ) (k : Central) (given : k ≡ central_lent c) where
  -- an accepted record is that of a slice of its length
  record-length : HostAccepted m k → length c ≡ 29
  record-length l = central-length (length m) c (rw given at l.fits)

  module _ (answer : Result Central Refusal) where
    -- the record of an accepted turn or exchange jump is stored into a slice of its length
    stores : (v : Verdict) (w x : CentralMachine) → central_answer_to n (answer_of k answer) ≡ central_answer_by v w x
        → (v ≡ Ok tt → HostAccepted m k) → IsOk answer → length c ≡ 29
    stores v w x e host ok =
        record-length (host (sym (verdict-of v w x) ∙ sym (ap (λ (y : CentralAnswered). y.answer.verdict) e) ∙ accepted k answer ok))

    pub central-turn-stores : central_answer_to n (answer_of k answer) ≡ turn_answer m k → IsOk answer → length c ≡ 29
    unfolding turn_answer
    central-turn-stores e = stores _ _ _ e (host-accepted m k)

    pub exchange-stores : (at : ℕ) → central_answer_to n (answer_of k answer) ≡ exchange_answer m k at → IsOk answer → length c ≡ 29
    unfolding exchange_answer
    exchange-stores at e = stores _ _ _ e (exchange-host m k at)

    -- the answer of an entry point, and the record kept
    module _ (d : List ℕ) (number : ℕ) (h : back number d ≡ back_of central_numbers answer c) where
      pub central-turn-is : central_answer_to n (answer_of k answer) ≡ turn_answer m k → central_left number n d ≡ central_turn m c
      unfolding central_turn
      central-turn-is e = kept-central n c k answer (back number d) h ∙ ap (central_left_by c) (e ∙ ap (turn_answer m) given)

      pub exchange-is : (at : ℕ) → central_answer_to n (answer_of k answer) ≡ exchange_answer m k at → central_left number n d ≡ central_exchange m c at
      unfolding central_exchange
      exchange-is at e =
          kept-central n c k answer (back number d) h
          ∙ ap (central_left_by c) (e ∙ ap (λ (y : Central). exchange_answer m y at) given)

  -- many turns, whose result has room; below, where it has none
  module _ (turns : ℕ) (answer : Result Ran Refusal) (e : turns_answer_to n (turns_answer_of k answer) ≡ turns_answer m k turns) where
    pub turns-store : (o : Ran) → answer ≡ Ok o → length c ≡ 29
    unfolding turns_answer
    turns-store o ok =
        record-length (turns-accepted m k turns
        (sym (turns-verdict-of _ _ _)
        ∙ sym (ap (λ (y : TurnsAnswered). y.answer.verdict) e)
        ∙ ap (λ (a : Result Ran Refusal). (turns_answer_of k a).verdict) ok)).0

    module _ (out : List ℕ) (room : 1 ≤ length out) where
      turns-as : turns_left_by c out (turns_answer_to n (turns_answer_of k answer)) ≡ central_turns m c turns out
      unfolding central_turns
      turns-as = rw (le-leb 1 (length out) room) (ap (turns_left_by c out) (e ∙ ap (λ (y : Central). turns_answer m y turns) given))

      pub turns-made : (o : Ran) (d : List ℕ) → answer ≡ Ok o → d ≡ central_numbers o.central
          → turns_left 0 n d (sets out 0 (o.turns ∷ [])) ≡ central_turns m c turns out
      turns-made o d ok h =
          rw h (sym (ap (λ (a : Result Ran Refusal). turns_left_by c out (turns_answer_to n (turns_answer_of k a))) ok) ∙ turns-as)

      pub turns-refused : (x : Refusal) (number : ℕ) → answer ≡ Err x → number ≡ refusal_number x
          → turns_left number n c (sets out 0 (0 ∷ [])) ≡ central_turns m c turns out
      turns-refused x number why h =
          rw h (sym (ap (λ (a : Result Ran Refusal). turns_left_by c out (turns_answer_to n (turns_answer_of k a))) why) ∙ turns-as)

  -- the run of a program, whose result has room; below, where it has none
  module _ (out : List ℕ) (room : 2 ≤ length out) (at turns : ℕ) (answer : Result StintEnd Refusal)
      (e : program_answer_to n (program_answer_of k answer) ≡ program_answer m k at turns) where
    program-as : program_left out (program_answer_to n (program_answer_of k answer)) ≡ program_run m c at turns out
    unfolding program_run
    program-as = rw (le-leb 2 (length out) room) (ap (program_left out) (e ∙ ap (λ (y : Central). program_answer m y at turns) given))

    pub program-made : (o : StintEnd) (stop : ℕ) → answer ≡ Ok o → stop ≡ stop_number o.stop
        → result_left 0 n (sets out 0 (o.turns ∷ stop ∷ [])) ≡ program_run m c at turns out
    program-made o stop ok h =
        rw h (sym (ap (λ (a : Result StintEnd Refusal). program_left out (program_answer_to n (program_answer_of k a))) ok) ∙ program-as)

    pub program-refused : (x : Refusal) (number : ℕ) → answer ≡ Err x → number ≡ refusal_number x
        → result_left number n (sets out 0 (0 ∷ 0 ∷ [])) ≡ program_run m c at turns out
    program-refused x number why h =
        rw h (sym (ap (λ (a : Result StintEnd Refusal). program_left out (program_answer_to n (program_answer_of k a))) why) ∙ program-as)

pub turns-short : (m c out : List ℕ) (k : Central) (turns number : ℕ) (v : Verdict) → k ≡ central_lent c → length out < 1
    → v ≡ host_verdict m k → number ≡ short_number v → turns_left number m c out ≡ central_turns m c turns out
unfolding central_turns
turns-short m c out k turns number v given none e h = rw (lt-leb 1 (length out) none, ← given, ← e, h)

pub program-short : (m c out : List ℕ) (k : Central) (at turns number : ℕ) (v : Verdict) → k ≡ central_lent c → length out < 2
    → v ≡ host_verdict m k → number ≡ short_number v → result_left number m out ≡ program_run m c at turns out
unfolding program_run
program-short m c out k at turns number v given none e h = rw (lt-leb 2 (length out) none, ← given, ← e, h)
