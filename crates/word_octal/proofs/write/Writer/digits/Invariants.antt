-- `word_octal::write::Writer::digits` meets its contract.
use Rattle.std.proofs.Common.{◌≡◌}
use Rattle.word_octal.specs.Write.{digits}
use Rattle.base_lists.specs.Laws.Written.{Writing}
use Rattle.word_octal.proofs.write.Writer.digits.Given as goal

abbrev pub invariant-loop-k : goal.invariant-loop-k
invariant-loop-k l =
    (l.self.out.ghost_name ≡ l.initial.self.out.ghost_name)
    × Writing l.initial.self.out.now l.initial.self.at (digits l.n l.v) l.self.out.now l.self.at (digits l.k l.v)
