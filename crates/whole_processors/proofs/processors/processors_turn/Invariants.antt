-- `whole_processors::processors::processors_turn` meets its contract.
use lib.ListN.{length}
use Rattle.peripheral_machine.specs.Machine.{machine}
use Rattle.whole_processors.specs.Laws.Processors.{ProcessorsGoing}
use Rattle.whole_processors.proofs.processors.processors_turn.Given as goal

abbrev pub invariant-loop-n : goal.invariant-loop-n
invariant-loop-n l =
    ProcessorsGoing (length l.initial.m) l.first l.count (machine l.initial.m l.initial.c l.initial.x l.initial.s.places)
    (machine l.m l.c l.x l.s.places)
    l.n
