-- The reading of an input byte by byte: that of the lines so far, and the line that has begun.
use Rattle.std.specs.Prelude.{Bool, true, false, cond, List, [], ◌∷◌, ◌++◌, ℕ, eqb, take}
use Rattle.console_line.specs.Form.{line_of}
use Rattle.console_grammar.specs.Reading.{Reading, no_line, readable, unreadable, line_to, ended}
use Rattle.console_grammar.specs.Held.{Lists, held, keep}
use Rattle.console_reader.specs.declared.reader.Reader.{Reader}

-- the line that has begun, and the reading of the lines before it
pub record Feeding : Type 0 where
  pub line : List ℕ
  pub reading : Reading

abbrev pub feeding : List ℕ → Reading → Feeding
feeding line x = record { line = line; reading = x }

-- one byte: of a line the first 32 are kept
unfoldable pub feed_to : Feeding → ℕ → Feeding
feed_to f byte =
    cond (eqb byte 10) (feeding [] (keep (line_to f.reading (line_of f.line))))
    (feeding (take 32 (f.line ++ (byte ∷ []))) f.reading)

unfoldable pub feed_all : Feeding → List ℕ → Feeding
feed_all f [] = f
feed_all f (byte ∷ bytes) = feed_all (feed_to f byte) bytes

abbrev pub nothing_fed : Feeding
nothing_fed = feeding [] no_line

-- what a reader holds with the lent memory and lists
abbrev pub held_by : Reader → List ℕ → Lists → Feeding
held_by r m l = feeding (take r.length r.line) (held r.progress m l)

-- the reading at the end of the input
abbrev pub end_of : Feeding → Reading
end_of f = ended f.line f.reading

abbrev pub is_readable : Reading → Bool
is_readable no_line = false
is_readable (readable part q) = true
is_readable unreadable = false
