-- `console_grammar::progress::Progress::on_job` meets its contract.
use Rattle.std.proofs.Common.{⊎_elim}
use Rattle.console_grammar.specs.Laws.Refused.{after-unreadable}
use Rattle.console_grammar.proofs.Refused.{line_refused}
use Rattle.console_grammar.specs.Laws.Jobs.{job-first, job-late, job-kept, job-over}
use Rattle.console_grammar.proofs.Parts.{job-added}
use Rattle.console_grammar.proofs.progress.Progress.on_job.Goals as goal

pub returns-in-Start : goal.returns-in-Start
returns-in-Start c =
    λ m ss ts room. line_refused c.refused.ensures
    (⊎_elim (job-first _ _) (⊎_elim (job-late _ _) (after-unreadable _ _)) c.in-Start.is)

pub returns-in_default : goal.returns-in_default
returns-in_default c =
    let added = job-added c.args.self.part c.in_default.not-Start c.in_default.not-Stints c.in_default.not-Unreadable _ in
    rw c.with_jobs.ensures (job-kept c.requires.1 c.requires.0 added c.if-n-lt-JOB_ENTRIES.true)

pub returns-in_default-2 : goal.returns-in_default-2
returns-in_default-2 c =
    let added = job-added c.args.self.part c.in_default.not-Start c.in_default.not-Stints c.in_default.not-Unreadable _ in
    rw c.with_jobs-in_default-2.ensures (job-over c.requires.1 c.requires.0 added c.if-n-lt-JOB_ENTRIES.false)
