-- `whole_rounds::round::run` meets its contract.
use Rattle.peripheral_machine.specs.Machine.{machine}
use Rattle.whole_rounds.proofs.Rounds.{RoundsGoing}
use Rattle.whole_rounds.proofs.round.run.Given as goal

abbrev pub invariant-loop-made : goal.invariant-loop-made
invariant-loop-made l =
    RoundsGoing l.k l.n (machine l.initial.m l.initial.c l.initial.x l.initial.s.places) (machine l.m l.c l.x l.s.places) l.made
