-- `console_reason::explain::explain` meets its contract.
use mathlib.Core.Path.{◌∙◌, sym}
use borrow.Author.Rules.{rules}
use Rattle.console_reader.specs.Laws.Verdict.{accepted-reader}
use Rattle.console_reason.specs.Reason.{explain_answer}
use Rattle.console_reason.specs.Laws.Text.{explained-inside}
use Rattle.console_reason.proofs.explain.explain.Goals as goal

pub explain_input-requires : goal.explain_input-requires
explain_input-requires c = accepted-reader c.args.tracker.reader _ _ (sym c.reader_verdict.ensures ∙ c.in_ok-reader_verdict.was) (search rules)

pub returns-clause-explained : goal.returns-clause-explained
unfolding explain_answer
returns-clause-explained c = rw (← c.reader_verdict.ensures, c.in_ok-reader_verdict.was) c.explain_input.ensures

pub returns-clause-within : goal.returns-clause-within
returns-clause-within c = explained-inside _ _ _ _ _ (returns-clause-explained c)
