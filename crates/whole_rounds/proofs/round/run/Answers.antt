-- `whole_rounds::round::run` meets its contract.
use mathlib.Core.Path.{sym, ◌∙◌}
use native.Mathlib.Omega.{arith}
use Rattle.peripheral_machine.specs.Machine.{machine}
use Rattle.whole_rounds.proofs.Rounds.{rounds-going-start, rounds-going-stop, rounds-going-on, rounds-going-end}
use Rattle.whole_rounds.proofs.round.run.Goals as goal

pub loop-made-init : goal.loop-made-init
loop-made-init c = rounds-going-start _ _ (machine _ _ _ _) c.requires.machine_kept

pub shape_of-m-then-all_stopped : goal.shape_of-m-then-all_stopped
shape_of-m-then-all_stopped c = c.loop-made.invariant.kept.size ∙ sym c.requires.machine_kept.size

pub shape_of-c-then-all_stopped : goal.shape_of-c-then-all_stopped
shape_of-c-then-all_stopped c = c.loop-made.invariant.long

pub returns-then-all_stopped : goal.returns-then-all_stopped
returns-then-all_stopped c =
    rounds-going-stop _ _ (machine _ _ _ _) (machine _ _ _ _) _ c.loop-made.invariant (sym c.all_stopped.ensures ∙ c.if-all_stopped.true)

pub loop-made-preserved : goal.loop-made-preserved
loop-made-preserved c =
    rounds-going-on _ _ (machine _ _ _ _) (machine _ _ _ _) _ c.loop-made.invariant c.requires.k_bound c.loop-made-test.true
    (sym c.all_stopped.ensures ∙ c.if-all_stopped.false)
    (machine _ _ _ _)
    c.round.ensures

pub shape_of-m : goal.shape_of-m
shape_of-m c = c.loop-made.invariant.kept.size ∙ sym c.requires.machine_kept.size

pub shape_of-c : goal.shape_of-c
shape_of-c c = c.loop-made.invariant.long

pub returns : goal.returns
returns c = rounds-going-end _ _ (machine _ _ _ _) (machine _ _ _ _) _ c.loop-made.invariant c.loop-made-test.false
