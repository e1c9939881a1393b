-- `peripheral_turn::turn::turn` meets its contract.
use mathlib.Core.Path.{sym, ◌∙◌, ap}
use Rattle.peripheral_machine.specs.Machine.{machine}
use Rattle.peripheral_machine.specs.declared.numbers.Processor.{Processor}
use Rattle.peripheral_turn.specs.Laws.Turn.{kept_memory, kept-held, kept-package, kept-effect, turn_stopped, turn-running}
use Rattle.peripheral_turn.proofs.turn.turn.Goals as goal

pub returns-then-processor-ne0 : goal.returns-then-processor-ne0
returns-then-processor-ne0 c =
    turn_stopped (machine _ _ _ _) _ (λ e. c.if-processor-ne0.true (ap (λ (q : Processor). q.stop) c.processor-processor.ensures ∙ e))

pub invariant_of-v : goal.invariant_of-v
invariant_of-v c = record { fits = kept_memory (machine _ _ _ _) c.requires.machine_kept }

pub invariant_of-v-2 : goal.invariant_of-v-2
invariant_of-v-2 c =
    let pre = c.requires in
    record { held = rw c.processor-processor.ensures (kept-held (machine _ _ _ _) _ pre.n_bound pre.machine_kept) }

pub apply-requires-clause-fits_package : goal.apply-requires-clause-fits_package
apply-requires-clause-fits_package c = kept-package (machine _ _ _ _) c.requires.machine_kept

pub apply-requires-clause-peripheral_sound : goal.apply-requires-clause-peripheral_sound
apply-requires-clause-peripheral_sound c =
    let pre = c.requires in
    rw (c.effect_of-e.ensures, c.processor-processor.ensures) (kept-effect (machine _ _ _ _) _ pre.n_bound pre.machine_kept)

pub returns : goal.returns
returns c =
    let q = c.processor-processor in
    let e = c.effect_of-e in
    turn-running (machine _ _ _ _) _ (ap (λ (q : Processor). q.stop) (sym q.ensures) ∙ c.if-processor-ne0.false)
    q.result
    q.ensures
    e.result
    e.ensures
    (machine _ _ _ _)
    c.apply.ensures
