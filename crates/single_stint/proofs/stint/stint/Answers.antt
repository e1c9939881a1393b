-- `single_stint::stint::stint` meets its contract.
use Rattle.single_stint.specs.Laws.Stint.{stint-is, fits-package, turns-may-run, may-exchange-out}
use Rattle.single_stint.proofs.stint.stint.Goals as goal

pub exchange_jump-program-requires : goal.exchange_jump-program-requires
exchange_jump-program-requires c = (c.requires.owner.inside, fits-package _ _ _ c.requires)

pub run-stop-requires : goal.run-stop-requires
run-stop-requires c = turns-may-run _ _ _ c.requires _ c.exchange_jump-program.ensures

pub exchange_jump-back-requires : goal.exchange_jump-back-requires
exchange_jump-back-requires c =
    let pre = c.requires in
    let exchange-jump = c.exchange_jump-program in
    let run = c.run-stop in
    may-exchange-out _ _ _ pre _ _ _ exchange-jump.ensures run.ensures.ran

pub returns : goal.returns
returns c =
    let exchange-jump = c.exchange_jump-program in
    let run = c.run-stop in
    let exchange-jump2 = c.exchange_jump-back in
    stint-is _ _ _ _ _ _ _ _ exchange-jump.ensures run.ensures.ran run.ensures.stop exchange-jump2.ensures
