-- `console_reason::fault::write_finding` meets its contract.
use native.Mathlib.Omega.{arith}
use Rattle.std.specs.Prelude.{refl, Ok, Err, None}
use Rattle.word_octal.specs.Laws.Writes.{writes_none}
use Rattle.console_answer.specs.Laws.Lengths.{length-refused}
use Rattle.console_reason.specs.Laws.Text.{writes-finding}
use Rattle.shared_fault.specs.Fault.{finding_to}
use Rattle.console_reason.proofs.fault.write_finding.Goals as goal

pub write_fault-requires : goal.write_fault-requires
write_fault-requires c = omega (arith, length-refused c.number.result)

pub returns-in-Ok : goal.returns-in-Ok
returns-in-Ok c = rw c.in-Ok.is (writes-finding (finding_to (Ok tt) None) refl c.write_refused.ensures (writes_none _))

pub returns-in-Err : goal.returns-in-Err
returns-in-Err c =
    let found = c.in-Err.found in
    rw c.in-Err.is (writes-finding (finding_to (Err found.refusal) found.fault) c.number.ensures c.write_refused-in-Err.ensures c.write_fault.ensures)
