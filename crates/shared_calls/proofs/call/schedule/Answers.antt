-- `shared_calls::call::schedule` meets its contract.
use Rattle.std.proofs.Common.{sym, ◌∙◌}
use borrow.Author.Rules.{rules}
use Rattle.shared_calls.specs.Answer.{schedule_answer}
use Rattle.shared_schedule.specs.Schedule.{schedule_of}
use Rattle.shared_calls.specs.Laws.Answer.{stints-may-run, accepted-answer}
use Rattle.shared_calls.proofs.call.schedule.Goals as goal

pub run_stints-requires : goal.run_stints-requires
run_stints-requires c =
    stints-may-run (schedule_of _ _ _ _ _)
    (record { verdict = sym c.schedule_verdict.ensures ∙ c.in_ok-schedule_verdict.was; registers = search rules })

pub returns : goal.returns
unfolding schedule_answer
returns c =
    rw (← c.schedule_verdict.ensures, c.in_ok-schedule_verdict.was) (accepted-answer _ _ _ c.run_stints.ensures)
