-- The rule of the table: the length and the fitness of the codes.
use Rattle.std.specs.Prelude.{Bool, not, ◌||◌, ◌&&◌, cond, ℕ, eqb, leb}

-- from the first code to the last
abbrev pub is_within : ℕ → ℕ → ℕ → Bool
is_within first last c = leb first c && leb c last

-- "Thirty bits: 01 to 07, 50 to 52, 60 to 62, 70 to 72."
unfoldable pub is_long : ℕ → Bool
is_long c = is_within 0o01 0o07 c || is_within 0o50 0o52 c || is_within 0o60 0o62 c || is_within 0o70 0o72 c

-- document 01: "24, 25, 30 to 35, 40 to 42, 44, 45"; document 02, (f): "want 24 and 30 to 33"
unfoldable pub is_left_out : ℕ → Bool
is_left_out c = eqb c 0o25 || is_within 0o34 0o35 c || is_within 0o40 0o42 c || is_within 0o44 0o45 c

-- stop 4: "a code left out, or 01 with i not 0"
unfoldable pub is_fit : ℕ → ℕ → Bool
is_fit c i = not (is_left_out c) && (not (eqb c 0o01) || eqb i 0)

-- an instruction's length
unfoldable pub parcels_of : ℕ → ℕ
parcels_of c = cond (is_long c) 2 1
