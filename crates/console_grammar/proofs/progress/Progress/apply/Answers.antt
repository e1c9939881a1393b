-- `console_grammar::progress::Progress::apply` meets its contract.
use Rattle.console_grammar.specs.Laws.Refused.{unreadable-line}
use Rattle.console_grammar.proofs.Refused.{line_refused}
use Rattle.console_grammar.proofs.progress.Progress.apply.Goals as goal

pub returns-in-None-clause-read : goal.returns-in-None-clause-read
returns-in-None-clause-read c = line_refused c.refused.ensures (unreadable-line c.args.self.part _ c.in-None.is)
