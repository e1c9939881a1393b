-- `word_octal::text::value_of` meets its contract.
use Rattle.word_octal.specs.Laws.Text.{ValueReading}
use Rattle.word_octal.proofs.text.value_of.Given as goal

abbrev pub invariant-loop-byte : goal.invariant-loop-byte
invariant-loop-byte l = ValueReading l.text l.value l.byte-index
