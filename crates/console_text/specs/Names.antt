-- The names at the head of the console's lines, as bytes.
use Rattle.std.specs.Prelude.{List, [], ◌∷◌, ℕ}

-- in the lines of an input: words=, at=, word=; in those of an answer too: job= and stint=
abbrev pub words_is : List ℕ
words_is = 119 ∷ 111 ∷ 114 ∷ 100 ∷ 115 ∷ 61 ∷ []

abbrev pub at_is : List ℕ
at_is = 97 ∷ 116 ∷ 61 ∷ []

abbrev pub word_is : List ℕ
word_is = 119 ∷ 111 ∷ 114 ∷ 100 ∷ 61 ∷ []

abbrev pub job_is : List ℕ
job_is = 106 ∷ 111 ∷ 98 ∷ 61 ∷ []

abbrev pub stint_is : List ℕ
stint_is = 115 ∷ 116 ∷ 105 ∷ 110 ∷ 116 ∷ 61 ∷ []

-- in those of an answer alone: turns=, stop= and refused=
abbrev pub turns_is : List ℕ
turns_is = 116 ∷ 117 ∷ 114 ∷ 110 ∷ 115 ∷ 61 ∷ []

abbrev pub stop_is : List ℕ
stop_is = 115 ∷ 116 ∷ 111 ∷ 112 ∷ 61 ∷ []

abbrev pub refused_is : List ℕ
refused_is = 114 ∷ 101 ∷ 102 ∷ 117 ∷ 115 ∷ 101 ∷ 100 ∷ 61 ∷ []

-- in the lines that say why an input is refused: line=, rule=, package= and field=
abbrev pub line_is : List ℕ
line_is = 108 ∷ 105 ∷ 110 ∷ 101 ∷ 61 ∷ []

abbrev pub rule_is : List ℕ
rule_is = 114 ∷ 117 ∷ 108 ∷ 101 ∷ 61 ∷ []

abbrev pub package_is : List ℕ
package_is = 112 ∷ 97 ∷ 99 ∷ 107 ∷ 97 ∷ 103 ∷ 101 ∷ 61 ∷ []

abbrev pub field_is : List ℕ
field_is = 102 ∷ 105 ∷ 101 ∷ 108 ∷ 100 ∷ 61 ∷ []
