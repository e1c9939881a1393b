-- `console_grammar::progress::Progress::on_stint` meets its contract.
use Rattle.std.proofs.Common.{⊎_elim}
use Rattle.console_grammar.specs.Laws.Refused.{after-unreadable}
use Rattle.console_grammar.proofs.Refused.{line_refused}
use Rattle.console_grammar.specs.Laws.Jobs.{stint-first, stint-kept, stint-over}
use Rattle.console_grammar.proofs.Parts.{stint-added}
use Rattle.console_grammar.proofs.progress.Progress.on_stint.Goals as goal

pub returns-in-Start : goal.returns-in-Start
returns-in-Start c =
    λ m js room. line_refused c.refused.ensures (⊎_elim (stint-first _ _ _) (after-unreadable _ _) c.in-Start.is)

pub returns-in_default : goal.returns-in_default
returns-in_default c =
    let added = stint-added c.args.self.part c.in_default.not-Start c.in_default.not-Unreadable _ _ in
    rw c.with_stints.ensures (stint-kept c.requires.1 c.requires.2 c.requires.0 added c.if-n-lt-STINT_ENTRIES.true)

pub returns-in_default-2 : goal.returns-in_default-2
returns-in_default-2 c =
    let added = stint-added c.args.self.part c.in_default.not-Start c.in_default.not-Unreadable _ _ in
    rw c.with_stints-in_default-2.ensures (stint-over c.requires.1 c.requires.2 c.requires.0 added c.if-n-lt-STINT_ENTRIES.false)
