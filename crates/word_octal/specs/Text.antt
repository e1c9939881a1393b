-- The number that a text in octal digits says.
use Rattle.std.specs.Prelude.{cond, Option, Some, None, List, [], ◌∷◌, ℕ, ◌+◌, ◌-◌, ◌*◌}
use Rattle.word_octal.specs.Read.{is_digit}

-- the number of digits that follow those with the value v
unfoldable pub value_after : ℕ → List ℕ → Option ℕ
value_after v [] = Some v
value_after v (byte ∷ text) = cond (is_digit byte) (value_after (v * 8 + (byte - 48)) text) None

abbrev pub value_of : List ℕ → Option ℕ
value_of text = value_after 0 text
