-- The bytes of one line.
use Rattle.std.specs.Prelude.{cond, List, [], ◌∷◌, ◌≡◌, ℕ, ◌+◌, eqb, ltb, length, drop, set}
use Rattle.console_reader.specs.declared.line_bytes.Filled.{Filled}

-- the first bytes of a line that has begun, and how many of them there are
pub record BegunLine : Type 0 where
  pub line : List ℕ
  pub length : ℕ

abbrev pub begun_line : List ℕ → ℕ → BegunLine
begun_line line n = record { line = line; length = n }

-- the first 32 bytes are kept, since no line of more than 25 is readable
unfoldable pub keep_byte : BegunLine → ℕ → BegunLine
keep_byte b byte = cond (ltb b.length 32) (begun_line (set b.line b.length byte) (b.length + 1)) b

unfoldable pub keep_bytes : BegunLine → List ℕ → BegunLine
keep_bytes b [] = b
keep_bytes b (byte ∷ bytes) = keep_bytes (keep_byte b byte) bytes

-- the bytes before the first line feed: all, where there is none
unfoldable pub before_line_feed : List ℕ → List ℕ
before_line_feed [] = []
before_line_feed (byte ∷ bytes) = cond (eqb byte 10) [] (byte ∷ before_line_feed bytes)

-- the bytes from a place up to a line feed were added to the line
pub record LineFilled (bytes : List ℕ) (from : ℕ) (line : List ℕ) (n : ℕ) (line' : List ℕ) (r : Filled) : Type 0 where
  pub place : r.at ≡ from + length (before_line_feed (drop from bytes))
  pub is : begun_line line' r.length ≡ keep_bytes (begun_line line n) (before_line_feed (drop from bytes))
