-- `console_grammar::progress::Progress::begin` meets its contract.
use Rattle.console_grammar.specs.Laws.Blocks.{begun-inside}
use Rattle.console_grammar.proofs.progress.Progress.begin.Goals as goal

pub returns-then-a-self : goal.returns-then-a-self
returns-then-a-self c = begun-inside _ _ c.requires c.if-a-self.true
