-- `run_program` is the schedule of one job and one stint.
use Rattle.std.specs.Prelude.{List, [], ◌∷◌, ◌≡◌, ℕ, Ok, Err}
use Rattle.std.proofs.Math.Path.{refl}
use Rattle.std.proofs.Common.{◌∙◌}
use Rattle.base_outcome.specs.Verdict.{Verdict}
use Rattle.central_record.specs.declared.record.Central.{Central}
use Rattle.single_calls.specs.Program.{ProgramAnswered, program_verdict, program_answer_by, program_answer}
use Rattle.single_stint.specs.Stint.{stint_of}
use Rattle.shared_schedule.specs.Laws.OneJob.{one_job, one-verdict}
use Rattle.shared_schedule.specs.Schedule.{stints_of}
use Rattle.shared_calls.specs.Answer.{padded, ScheduleAnswered, schedule_answer_to, schedule_answer_by, schedule_answer}

-- the answer on one program as that on a schedule of one stint
abbrev pub as_schedule : ProgramAnswered → ScheduleAnswered
as_schedule o =
    schedule_answer_to o.memory
    (record {
      verdict = o.answer.verdict;
      central = o.answer.central;
      turns = padded (o.answer.turns ∷ []);
      stops = padded (o.answer.stop ∷ []);
    })

module _ (m : List ℕ) (c : Central) (at n : ℕ) where
  by-verdict : (v : Verdict) → as_schedule (program_answer_by v m c (stint_of m c at n)) ≡ schedule_answer_by v (one_job m c at n)
  unfolding stints_of
  by-verdict (Ok tt) = refl
  by-verdict (Err r) = refl

  pub program-is-schedule : as_schedule (program_answer m c at n) ≡ schedule_answer (one_job m c at n)
  unfolding program_answer schedule_answer
  program-is-schedule = by-verdict (program_verdict m c at n) ∙ rw (one-verdict m at n c)
