-- `console_reason::explain::explain_input` meets its contract.
use native.Mathlib.Omega.{arith}
use Rattle.console_reason.specs.Laws.Text.{reason-short, reason-written}
use Rattle.console_reason.proofs.explain.explain_input.Goals as goal

pub returns-then-out-lt-REASON_BYTES : goal.returns-then-out-lt-REASON_BYTES
returns-then-out-lt-REASON_BYTES c = reason-short _ _ (omega (arith, c.if-out-lt-REASON_BYTES.true))

pub returns : goal.returns
returns c = rw (← c.found_at_end-found.ensures) (reason-written (omega (arith, c.if-out-lt-REASON_BYTES.false)) c.print_reason.ensures)
