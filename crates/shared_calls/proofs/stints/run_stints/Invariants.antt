-- `shared_calls::stints::run_stints` meets its contract.
use Rattle.shared_calls.specs.Answer.{turns_in, stops_in}
use Rattle.shared_calls.specs.Laws.Stints.{StintsGoing}
use Rattle.shared_calls.proofs.stints.run_stints.Given as goal

abbrev pub invariant-loop-k : goal.invariant-loop-k
invariant-loop-k l =
    StintsGoing l.jobs l.stint_jobs l.stint_turns l.initial.m l.initial.end.central l.m l.end.central (turns_in l.end.results) (stops_in l.end.results) l.k
