-- `console_calls::run::run` meets its contract.
use native.Mathlib.Omega.{arith}
use borrow.Author.Rules.{rules}
use Rattle.console_calls.specs.Laws.Print.{printed-stints, schedule-printed}
use Rattle.console_grammar.specs.Reading.{request}
use Rattle.console_calls.proofs.run.run.Goals as goal

pub print-requires : goal.print-requires
print-requires c =
    let pre = c.requires in
    let asked = rw c.zero_record.ensures at c.schedule-end.ensures in
    record { stints = printed-stints (request c.args.memory.now c.args.jobs.now c.args.stint_jobs.now c.args.stint_turns.now) _ _ asked; memory = omega (arith, pre.0); room = pre.1 }

pub returns : goal.returns
returns c =
    let asked = rw c.zero_record.ensures at c.schedule-end.ensures in
    schedule-printed (request c.args.memory.now c.args.jobs.now c.args.stint_jobs.now c.args.stint_turns.now) _ asked c.print.ensures
