-- `word_octal::write::width` meets its contract.
use Rattle.std.proofs.Common.{◌≡◌, ◌-◌}
use Rattle.word_octal.specs.Write.{width_in}
use Rattle.word_octal.proofs.write.width.Given as goal

abbrev pub invariant-loop-k : goal.invariant-loop-k
invariant-loop-k l = width_in (l.k - 1) l.v ≡ width_in 21 l.v
