-- `console_reader::line_bytes::fill` meets its contract.
use native.Mathlib.Omega.{arith}
use Rattle.console_reader.proofs.Filling.{to_end}
use Rattle.console_reader.proofs.line_bytes.fill.Goals as goal

pub returns : goal.returns
returns c = to_end _ _ _ _ _ _ _ _ c.loop-at.invariant.filling c.loop-at-test.false (omega arith)
