-- `console_grammar::progress::Progress::on_at` meets its contract.
use Rattle.std.proofs.Common.{⊎_elim}
use Rattle.console_grammar.proofs.Refused.{line_refused}
use Rattle.console_grammar.specs.Laws.Blocks.{begin-first, at-or-below, below_end, begin-next}
use Rattle.console_grammar.proofs.Parts.{no-at}
use Rattle.console_grammar.proofs.progress.Progress.on_at.Goals as goal

pub returns-then-a-start : goal.returns-then-a-start
returns-then-a-start c =
    let block = c.in-Block.is in
    λ m l room. line_refused c.refused.ensures
    (⊎_elim (λ h. at-or-below _ _ _ _ block h) (λ h. below_end _ _ _ _ block h.1) c.then-a-start.either)

pub returns-in-Words : goal.returns-in-Words
returns-in-Words c = begin-first c.in-Words.is c.begin.ensures

pub returns-else-a-end : goal.returns-else-a-end
returns-else-a-end c = begin-next c.in-Block.is c.if-a-start.false c.if-a-end.false c.begin-in-Block.ensures

pub returns-in_default : goal.returns-in_default
returns-in_default c =
    λ m l room. line_refused c.refused-in_default.ensures (no-at c.args.self.part c.in_default.not-Words c.in_default.not-Block _)
