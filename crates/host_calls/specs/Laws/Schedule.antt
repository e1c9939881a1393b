-- The call that runs a schedule by the results of its parts.
use Rattle.std.specs.Prelude.{List, [], ◌≡◌, ℕ, ◌*◌, ◌≤◌, ◌<◌, Result, Ok, Err}
use Rattle.std.proofs.Math.Path.{sym, ap}
use Rattle.std.proofs.Common.{◌∙◌, le-leb}
use Rattle.std.proofs.lemmas.Bool.{lt-leb}
use Rattle.std.proofs.Math.ListN.{length}
use Rattle.base_outcome.specs.Numbers.{refusal_number}
use Rattle.base_outcome.specs.declared.refusal.Refusal.{Refusal}
use Rattle.base_outcome.specs.Verdict.{Verdict}
use Rattle.central_record.specs.Record.{host_verdict}
use Rattle.central_record.specs.declared.record.Central.{Central}
use Rattle.shared_calls.specs.Answer.{padded, turns_in, stops_in, schedule_answer_of, schedule_answer_to, schedule_answer}
use Rattle.shared_schedule.specs.Schedule.{schedule_of}
use Rattle.shared_calls.specs.declared.stints.StintsEnd.{StintsEnd}
use Rattle.host_answer.specs.Back.{short_number}
use Rattle.base_lists.specs.Rows.{rows}
use Rattle.base_lists.specs.Written.{Stores}
use Rattle.host_record.specs.Lent.{central_lent}
use Rattle.host_answer.specs.Results.{stint_row}
use Rattle.host_calls.specs.Central.{result_left}
use Rattle.host_calls.specs.Schedule.{schedule_left, schedule_run}

-- the answer of the entry point, whose result has room or has none
module _ (m c jobs js ts out : List ℕ) (k : Central) (given : k ≡ central_lent c) (number : ℕ) where
  module _ (n d turns stops : List ℕ) (answer : Result StintsEnd Refusal) (room : 2 * length js ≤ length out)
      (e : schedule_answer_to n (schedule_answer_of k answer) ≡ schedule_answer (schedule_of m k jobs js ts))
      (s : Stores out 0 (rows (length js) (stint_row turns stops)) d) where
    schedule-as : schedule_left out (length js) (schedule_answer_to n (schedule_answer_of k answer)) ≡ schedule_run m c jobs js ts out
    unfolding schedule_run
    schedule-as =
        rw (le-leb (2 * length js) (length out) room)
        (ap (schedule_left out (length js)) (e ∙ ap (λ (y : Central). schedule_answer (schedule_of m y jobs js ts)) given))

    pub schedule-made : (o : StintsEnd) → answer ≡ Ok o → turns ≡ turns_in o.results → stops ≡ stops_in o.results
        → result_left 0 n d ≡ schedule_run m c jobs js ts out
    schedule-made o ok t u =
        rw (s.is, t, u)
        (sym (ap (λ (a : Result StintsEnd Refusal). schedule_left out (length js) (schedule_answer_to n (schedule_answer_of k a))) ok)
        ∙ schedule-as)

    pub schedule-refused : (x : Refusal) → answer ≡ Err x → number ≡ refusal_number x → turns ≡ padded [] → stops ≡ padded []
        → result_left number n d ≡ schedule_run m c jobs js ts out
    schedule-refused x why h t u =
        rw (s.is, t, u, h)
        (sym (ap (λ (a : Result StintsEnd Refusal). schedule_left out (length js) (schedule_answer_to n (schedule_answer_of k a))) why)
        ∙ schedule-as)

  pub schedule-short : (v : Verdict) → length out < 2 * length js → v ≡ host_verdict m k → number ≡ short_number v
      → result_left number m out ≡ schedule_run m c jobs js ts out
  unfolding schedule_run
  schedule-short v none e h = rw (lt-leb (2 * length js) (length out) none, ← given, ← e, h)
