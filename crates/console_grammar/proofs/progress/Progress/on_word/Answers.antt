-- `console_grammar::progress::Progress::on_word` meets its contract.
use Rattle.console_grammar.proofs.Refused.{line_refused, word-past}
use Rattle.console_grammar.specs.Laws.Blocks.{block-word-read}
use Rattle.console_grammar.proofs.Parts.{no_word}
use Rattle.console_grammar.proofs.progress.Progress.on_word.Goals as goal

pub returns-in_default : goal.returns-in_default
returns-in_default c = λ l room. line_refused c.refused.ensures (no_word c.args.self.part c.in_default.not-Block _)

pub returns-then-self-end : goal.returns-then-self-end
returns-then-self-end c = word-past c.requires.0 c.in-Block.is c.if-self-end.true c.refused-then-self-end.ensures

pub returns : goal.returns
returns c = block-word-read c.requires.0 c.in-Block.is c.if-self-end.false
