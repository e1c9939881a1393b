-- The call that runs a schedule: an accepted call, by the results of its stints.
use Rattle.std.specs.Prelude.{List, ◌≡◌, ℕ, Ok}
use Rattle.std.proofs.Common.{ap}
use Rattle.shared_calls.specs.declared.stints.StintsEnd.{StintsEnd}
use Rattle.shared_schedule.specs.Isolation.{ScheduleAccepted}
use Rattle.shared_schedule.proofs.Refusals.{accepted-lists, accepted-ready}
use Rattle.shared_schedule.specs.Schedule.{Schedule, schedule_end}
use Rattle.shared_calls.specs.Answer.{MayRun, StintsMemory, stints_to, in_arrays, schedule_answer_of, schedule_answer_to, schedule_answer_by}

-- the stints of an accepted schedule may run
pub stints-may-run : (s : Schedule) → ScheduleAccepted s → MayRun s.memory s.central s.jobs s.stint_jobs s.stint_turns
stints-may-run s a =
    let lists = accepted-lists s a in
    record { ready = accepted-ready s a; listed = lists.listed; even = lists.fit.even; most = lists.fit.most-stints }

pub accepted-answer : (s : Schedule) (m : List ℕ) (o : StintsEnd) → stints_to m o ≡ in_arrays (schedule_end s)
    → schedule_answer_to m (schedule_answer_of s.central (Ok o)) ≡ schedule_answer_by (Ok tt) s
accepted-answer s m o e =
    ap (λ (x : StintsMemory). schedule_answer_to x.memory (record { verdict = (Ok tt); central = x.end.central; turns = x.end.turns; stops = x.end.stops })) e
