-- The first unreadable line of an input: by its number, from 1, and the rule that it breaks.
use Rattle.std.specs.Prelude.{Option, Some, None, List, [], ◌∷◌, ℕ, ◌+◌, length}
use Rattle.console_line.specs.Form.{line_of}
use Rattle.console_grammar.specs.Lines.{lines_of}
use Rattle.console_grammar.specs.Reading.{Reading, no_line, readable, unreadable, line_to, all_to}
use Rattle.console_grammar.specs.Store.{kind_of}
use Rattle.console_grammar.specs.declared.progress.Part.{Part}
use Rattle.console_grammar.specs.declared.progress.Part.TheVariants as Last
use Rattle.console_unreadable.specs.Rule.{rule_of}
use Rattle.console_unreadable.specs.declared.rule.Rule.{Rule}
use Rattle.console_unreadable.specs.declared.rule.Rule.TheVariants.{LineFeed, Empty}
use Rattle.console_unreadable.specs.declared.tracker.UnreadableLine.{UnreadableLine}

-- an unreadable line, or none
abbrev pub Found : Type 0
Found = Option UnreadableLine

-- the line with the number n, and the rule that it breaks
abbrev pub line_at : ℕ → Rule → UnreadableLine
line_at n rule = record { number = n; rule = rule }

-- the kind of the last line of a reading
abbrev pub last_part : Reading → Part
last_part no_line = Last.Start
last_part (readable part q) = kind_of part
last_part unreadable = Last.Unreadable

-- the line that was read last, where it made the input unreadable; else what is found later
abbrev pub here_or_later : Reading → Found → Found → Found
here_or_later unreadable here later = here
here_or_later no_line here later = later
here_or_later (readable part q) here later = later

-- in lines that follow a reading, the first of them with the number n
unfoldable pub first_unreadable : ℕ → Reading → List (List ℕ) → Found
first_unreadable n x [] = None
first_unreadable n x (text ∷ texts) =
    here_or_later (line_to x (line_of text)) (Some (line_at n (rule_of (last_part x) (line_of text)))) (first_unreadable (n + 1) (line_to x (line_of text)) texts)

-- at the end of the input, after lines that are readable, where the line with the number n would be: "A line feed ends each line"; "an empty input"
abbrev pub found_at_end : ℕ → List ℕ → Reading → Found
found_at_end n (byte ∷ rest) x = Some (line_at n LineFeed)
found_at_end n [] no_line = Some (line_at n Empty)
found_at_end n [] (readable part q) = None
found_at_end n [] unreadable = None

abbrev pub or_found : Found → Found → Found
or_found None later = later
or_found (Some line) later = Some line

-- in a whole input
unfoldable pub unreadable_in : List ℕ → Found
unreadable_in bytes =
    or_found (first_unreadable 1 no_line (lines_of bytes).ended)
    (found_at_end (1 + length (lines_of bytes).ended) (lines_of bytes).rest (all_to no_line (lines_of bytes).ended))
