-- `console_calls::finish::answer_input` meets its contract.
use mathlib.Core.Path.{◌∙◌, sym, refl}
use native.Mathlib.Omega.{arith}
use lib.Seq.{length-take-le}
use Rattle.console_reader.specs.Laws.Feeding.{complete-is}
use Rattle.console_calls.specs.Laws.Finish.{take_short, finish-unreadable, finish-run}
use Rattle.console_calls.proofs.finish.answer_input.Goals as goal

pub returns-then-not-is_complete : goal.returns-then-not-is_complete
returns-then-not-is_complete c =
    let pre = c.requires in
    finish-unreadable _ _ (sym (complete-is _ _ _ pre) ∙ sym c.is_complete.ensures ∙ c.if-not-is_complete.true) refl
    (omega arith) c.print_refused.ensures

pub slice_bounds-run-end : goal.slice_bounds-run-end
slice_bounds-run-end c =
    let pre = c.requires in
    omega (arith, pre.progress.words, pre.room.memory)

pub slice_bounds-run-end-2 : goal.slice_bounds-run-end-2
slice_bounds-run-end-2 c =
    let pre = c.requires in
    sym (length-take-le _ _ (omega (arith, pre.progress.words, pre.room.memory)))

pub slice_bounds-run-end-3 : goal.slice_bounds-run-end-3
slice_bounds-run-end-3 c =
    let pre = c.requires in
    sym (length-take-le _ _ (omega (arith, pre.progress.jobs, pre.room.jobs)))

pub slice_bounds-run-end-4 : goal.slice_bounds-run-end-4
slice_bounds-run-end-4 c =
    let pre = c.requires in
    sym (length-take-le _ _ (omega (arith, pre.progress.stints, pre.room.stint_jobs)))

pub slice_bounds-run-end-5 : goal.slice_bounds-run-end-5
slice_bounds-run-end-5 c =
    let pre = c.requires in
    sym (length-take-le _ _ (omega (arith, pre.progress.stints, pre.room.stint_turns)))

pub run-requires : goal.run-requires
run-requires c =
    let pre = c.requires in
    (take_short _ _ _ (omega (arith, pre.progress.words, pre.room.memory)) pre.progress.words, omega arith)

pub returns : goal.returns
returns c =
    finish-run _ _ _ c.requires (sym c.is_complete.ensures ∙ c.if-not-is_complete.false) (omega arith)
    c.run.ensures
