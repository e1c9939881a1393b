-- `console_reason::explain::write_reason` meets its contract.
use mathlib.Core.Path.{sym}
use native.Mathlib.Omega.{arith}
use lib.Seq.{length-take-le}
use Rattle.console_reason.proofs.explain.write_reason.Goals as goal

pub slice_bounds-find_fault-end : goal.slice_bounds-find_fault-end
slice_bounds-find_fault-end c = sym (length-take-le _ _ (omega (arith, c.requires.0.words, c.requires.1.memory)))

pub slice_bounds-find_fault-end-in-None : goal.slice_bounds-find_fault-end-in-None
slice_bounds-find_fault-end-in-None c = sym (length-take-le _ _ (omega (arith, c.requires.0.jobs, c.requires.1.jobs)))

pub slice_bounds-find_fault-end-in-None-2 : goal.slice_bounds-find_fault-end-in-None-2
slice_bounds-find_fault-end-in-None-2 c = sym (length-take-le _ _ (omega (arith, c.requires.0.stints, c.requires.1.stint_jobs)))

pub slice_bounds-find_fault-end-in-None-3 : goal.slice_bounds-find_fault-end-in-None-3
slice_bounds-find_fault-end-in-None-3 c = sym (length-take-le _ _ (omega (arith, c.requires.0.stints, c.requires.1.stint_turns)))

pub returns-in-Some : goal.returns-in-Some
returns-in-Some c = rw c.in-Some.is c.write_unreadable.ensures

pub returns-in-None : goal.returns-in-None
returns-in-None c =
    let asked = rw c.zero_record.ensures at c.find_fault-finding.ensures in
    rw (c.in-None.is, ← asked) c.write_finding.ensures
