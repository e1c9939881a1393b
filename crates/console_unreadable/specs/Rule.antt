-- The rule that an unreadable line breaks, by document 01, "The console program". `line_to` says which lines are unreadable.
use Rattle.std.specs.Prelude.{Option, Some, None}
use Rattle.std.specs.Prelude.{◌&&◌, cond, ℕ, leb, ltb}
use Rattle.console_line.specs.declared.form.Line.{Line}
use Rattle.console_line.specs.declared.form.Line.TheVariants.{Words, At, Word, Job, Stint}
use Rattle.console_grammar.specs.declared.progress.Part.{Part}
use Rattle.console_grammar.specs.declared.progress.Part.TheVariants as Last
use Rattle.console_unreadable.specs.declared.rule.Rule.{Rule}
use Rattle.console_unreadable.specs.declared.rule.Rule.TheVariants.{Form, Limit, Order, Below, Past}

-- "one words= (1 to 10000)": the first line has another value, or another line stands before it
abbrev pub words_rule : Part → Rule
words_rule Last.Start = Limit
words_rule Last.Words = Order
words_rule (Last.Block begin end) = Order
words_rule Last.Jobs = Order
words_rule Last.Stints = Order
words_rule Last.Unreadable = Order

-- "a block that begins at or below the block before it or below that block's end", or else one that begins "past the last word of memory"
abbrev pub at_rule : Part → ℕ → Rule
at_rule Last.Words a = Past
at_rule (Last.Block begin end) a = cond (ltb begin a && leb end a) Past Below
at_rule Last.Start a = Order
at_rule Last.Jobs a = Order
at_rule Last.Stints a = Order
at_rule Last.Unreadable a = Order

-- a block that "runs past the last word of memory", or no block
abbrev pub word_rule : Part → Rule
word_rule (Last.Block begin end) = Past
word_rule Last.Start = Order
word_rule Last.Words = Order
word_rule Last.Jobs = Order
word_rule Last.Stints = Order
word_rule Last.Unreadable = Order

-- of an unreadable line, after a line of this kind. "Any other line or order"
abbrev pub rule_of : Part → Option Line → Rule
rule_of part (Some (Words n)) = words_rule part
rule_of part (Some (At a)) = at_rule part a
rule_of part (Some (Word w)) = word_rule part
rule_of part (Some (Job a)) = Order
rule_of part (Some (Stint job turns)) = Order
rule_of part None = Form
