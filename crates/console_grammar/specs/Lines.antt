-- The lines of an input.
use Rattle.std.specs.Prelude.{cond, List, [], ◌∷◌, ◌++◌, ℕ, eqb}

-- the lines that a line feed ends, each without it, and the bytes after the last of them
pub record Lines : Type 0 where
  pub ended : List (List ℕ)
  pub rest : List ℕ

abbrev pub lines : List (List ℕ) → List ℕ → Lines
lines ended rest = record { ended = ended; rest = rest }

-- the lines of bytes that follow the bytes of a line that has begun: "A line feed ends each line"
unfoldable pub lines_after : List ℕ → List ℕ → Lines
lines_after begun [] = lines [] begun
lines_after begun (byte ∷ bytes) =
    cond (eqb byte 10) (lines (begun ∷ (lines_after [] bytes).ended) (lines_after [] bytes).rest)
    (lines_after (begun ++ (byte ∷ [])) bytes)

abbrev pub lines_of : List ℕ → Lines
lines_of bytes = lines_after [] bytes
