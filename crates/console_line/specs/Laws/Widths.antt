-- The values of a line fit a word and 18 bits.
use Rattle.std.specs.Prelude.{Option, Some, None, List, ℕ, ◌^◌, ◌<◌}
use Rattle.console_line.specs.Form.{line_of}
use Rattle.console_line.specs.Laws.Value.{word-value-below, number-below}
use Rattle.console_line.specs.Laws.Says.{Says, line-says}
use Rattle.console_line.specs.declared.form.Line.{Line}
use Rattle.console_line.specs.declared.form.Line.TheVariants.{Words, At, Word, Job, Stint}

abbrev pub LineFits : Option Line → Type 0
LineFits (Some (Words v)) = v < 2 ^ 18
LineFits (Some (At v)) = v < 2 ^ 18
LineFits (Some (Word v)) = v < 2 ^ 60
LineFits (Some (Job v)) = v < 2 ^ 18
LineFits (Some (Stint job turns)) = (job < 2 ^ 18) × (turns < 2 ^ 18)
LineFits None = Unit {0}

says-fits : (text : List ℕ) (line : Option Line) → Says text line → LineFits line
says-fits text (Some (Words v)) s = number-below s.digits s.has
says-fits text (Some (At v)) s = number-below s.digits s.has
says-fits text (Some (Word v)) s = word-value-below s.digits s.has
says-fits text (Some (Job v)) s = number-below s.digits s.has
says-fits text (Some (Stint job turns)) s = (number-below s.js s.has-job, number-below s.ts s.has-turns)
says-fits text None s = tt

pub line-fits : (text : List ℕ) → LineFits (line_of text)
line-fits text = says-fits text (line_of text) (line-says text)
