-- `console_calls::whole::answer` meets its contract.
use borrow.Author.Rules.{rules}
use Rattle.console_calls.specs.Laws.Finish.{whole-answer, whole-fed}
use Rattle.console_calls.proofs.whole.answer.Goals as goal

pub returns : goal.returns
returns c =
    whole-answer _ _ _ _ _ c.new.ensures
    (record { memory = search rules; jobs = search rules; stint_jobs = search rules; stint_turns = search rules }) c.in_ok-reader.ensures.read c.finish.ensures.answered

pub returns-in_err-reader : goal.returns-in_err-reader
returns-in_err-reader c =
    absurd (whole-fed _ _ _ _ c.new.ensures
    (record { memory = search rules; jobs = search rules; stint_jobs = search rules; stint_turns = search rules }) c.in_err-reader.ensures.read)
