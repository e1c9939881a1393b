-- `console_answer::stints::write_stints` meets its contract.
use Rattle.word_octal.specs.Laws.Writes.{writes_next, writes_end}
use Rattle.console_answer.specs.Laws.Lengths.{length-stint}
use Rattle.console_answer.specs.Laws.Room.{room_next}
use Rattle.console_answer.specs.Laws.Stints.{stints-next, stints-end}
use Rattle.console_answer.proofs.stints.write_stints.Goals as goal

pub loop-index-preserved : goal.loop-index-preserved
loop-index-preserved c =
    let inv = c.loop-index.invariant in
    let more = c.loop-index-test.true in
    let pre = c.requires.jobs_in_bounds in
    let stint = c.write_stint.ensures in (
      room_next inv.0 more stint (length-stint _ _ _ _),
      writes_next inv.1 (stints-next _ _ _ _ more pre.0 pre.1) stint,
    )

pub returns : goal.returns
returns c = writes_end c.loop-index.invariant.1 (stints-end _ _ _ _ c.loop-index-test.false)
