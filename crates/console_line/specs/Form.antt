-- What a line of the input says, by its bytes without the line feed that ends it.
use Rattle.std.specs.Prelude.{Bool, true, false, ◌&&◌, cond, Option, Some, None, List, [], ◌∷◌, ℕ, suc, ◌+◌, eqb, leb, length, take, drop}
use Rattle.word_octal.specs.Text.{value_of}
use Rattle.console_text.specs.Names.{words_is, at_is, word_is, job_is, stint_is}
use Rattle.console_line.specs.declared.form.Line.{Line}
use Rattle.console_line.specs.declared.form.Line.TheVariants.{Words, At, Word, Job, Stint}

-- "20 digits" for a word, and "Other values have 1 to 6 digits"; "all values in program lines are octal"
unfoldable pub word : List ℕ → Option ℕ
word text = cond (eqb (length text) 20) (value_of text) None

unfoldable pub number : List ℕ → Option ℕ
number text = cond (leb 1 (length text) && leb (length text) 6) (value_of text) None

unfoldable pub begins : List ℕ → List ℕ → Bool
begins [] text = true
begins (a ∷ name) [] = false
begins (a ∷ name) (b ∷ text) = cond (eqb b a) (begins name text) false

-- where the first comma stands, or the length where there is none
unfoldable pub comma : List ℕ → ℕ
comma [] = 0
comma (b ∷ text) = cond (eqb b 44) 0 (suc (comma text))

-- a line of one value, and the line of a stint, which has two with a comma between them
abbrev pub one : (ℕ → Line) → Option ℕ → Option Line
one f (Some v) = Some (f v)
one f None = None

abbrev pub two : Option ℕ → Option ℕ → Option Line
two (Some job) (Some turns) = Some (Stint job turns)
two (Some job) None = None
two None turns = None

unfoldable pub stint : List ℕ → Option Line
stint text =
    cond (eqb (comma text) (length text)) None
    (two (number (take (comma text) text)) (number (drop (comma text + 1) text)))

unfoldable pub line_of : List ℕ → Option Line
line_of text =
    cond (begins words_is text) (one Words (number (drop 6 text)))
    (cond (begins at_is text) (one At (number (drop 3 text)))
    (cond (begins word_is text) (one Word (word (drop 5 text)))
    (cond (begins job_is text) (one Job (number (drop 4 text)))
    (cond (begins stint_is text) (stint (drop 6 text)) None))))
