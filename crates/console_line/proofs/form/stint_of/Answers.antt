-- `console_line::form::stint_of` meets its contract.
use mathlib.Core.Path.{sym, ◌∙◌}
use Rattle.console_line.specs.Laws.Branches.{stint-none, stint-some}
use Rattle.console_line.proofs.form.stint_of.Goals as goal

pub returns-in_err-comma : goal.returns-in_err-comma
returns-in_err-comma c = c.from_residual.ensures ∙ stint-none _ c.first_comma.ensures c.in_err-comma.was

pub returns-in_err-job : goal.returns-in_err-job
returns-in_err-job c =
    let is = stint-some _ c.first_comma.ensures c.in_ok-comma.was in
    c.from_residual-in_err-job.ensures ∙ sym (is ∙ rw (sym c.number_of.ensures ∙ c.in_err-job.was))

pub returns-in_err-turns : goal.returns-in_err-turns
returns-in_err-turns c =
    let is = stint-some _ c.first_comma.ensures c.in_ok-comma.was in
    c.from_residual-in_err-turns.ensures
    ∙ sym (is ∙ rw (sym c.number_of.ensures ∙ c.in_ok-job.was, sym c.number_of-2.ensures ∙ c.in_err-turns.was))

pub returns : goal.returns
returns c =
    let is = stint-some _ c.first_comma.ensures c.in_ok-comma.was in
    sym (is ∙ rw (sym c.number_of.ensures ∙ c.in_ok-job.was, sym c.number_of-2.ensures ∙ c.in_ok-turns.was))
