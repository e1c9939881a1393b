-- `check_probe::answer::Text::put_digits` meets its contract.
use native.Mathlib.Omega.{arith}
use Rattle.word_octal.specs.Laws.Write.{length_octal}
use Rattle.check_probe.proofs.answer.Text.put_digits.Goals as goal

pub invariant_of-self : goal.invariant_of-self
invariant_of-self g c = record { in_room = omega (arith, c.octal.ensures.wrote.ends, length_octal c.args.n, c.requires) }
