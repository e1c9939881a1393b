use mathlib.Core.Path.{refl}
use Rattle.base_lists.specs.Laws.Rows.{no-row-stored, one-row-stored}
use Rattle.host_answer.specs.Laws.Results.{pair-stored}
use Rattle.host_answer.proofs.results.store_stints.Goals as goal

pub loop-i-init : goal.loop-i-init
loop-i-init c = no-row-stored

pub loop-i-preserved : goal.loop-i-preserved
loop-i-preserved c =
    let loop = c.loop-i in
    one-row-stored (λ j. refl) loop.invariant c.loop-i-test.true
    (pair-stored loop.res loop.i c.entry.ensures c.entry-in-loop-i.ensures)
