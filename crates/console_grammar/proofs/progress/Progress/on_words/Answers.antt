-- `console_grammar::progress::Progress::on_words` meets its contract.
use native.Mathlib.Omega.{arith}
use Rattle.console_grammar.proofs.Refused.{line_refused}
use Rattle.console_grammar.specs.Laws.Words.{words-line-read, zeros-over}
use Rattle.console_grammar.proofs.Parts.{no_words}
use Rattle.console_grammar.proofs.progress.Progress.on_words.Goals as goal

pub returns-in_default : goal.returns-in_default
returns-in_default c = λ l room. line_refused c.refused-in_default.ensures (no_words c.args.self.part c.in_default.not-Start _)

pub returns : goal.returns
returns c =
    let zeros = zeros-over c.args.n c.args.memory.now c.fill.new.self (omega (arith, c.requires)) (c.fill.ensures.after (λ y e. e)) in
    words-line-read c.in-Start.is c.if-n-lt1.false c.if-n-gt4096.false zeros
