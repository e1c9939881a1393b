-- `console_calls::finish::finish` meets its contract.
use mathlib.Core.Path.{◌∙◌, sym}
use borrow.Author.Rules.{rules}
use Rattle.console_reader.specs.Laws.Verdict.{accepted-reader}
use Rattle.console_calls.specs.Finish.{finish_answer}
use Rattle.console_calls.specs.Laws.Length.{answer_inside}
use Rattle.console_calls.proofs.finish.finish.Goals as goal

pub answer_input-requires : goal.answer_input-requires
answer_input-requires c = accepted-reader c.args.reader _ _ (sym c.reader_verdict.ensures ∙ c.in_ok-reader_verdict.was) (search rules)

pub returns-clause-answered : goal.returns-clause-answered
unfolding finish_answer
returns-clause-answered c = rw (← c.reader_verdict.ensures, c.in_ok-reader_verdict.was) c.answer_input.ensures

pub returns-clause-within : goal.returns-clause-within
returns-clause-within c = answer_inside _ _ _ _ _ (returns-clause-answered c)
