-- The special words. A word is infinite or indefinite by its top 12 bits alone.
use Rattle.std.specs.Prelude.{ℕ, ◌*◌, ◌/◌, ◌^◌, Bool, not, cond, ◌||◌, eqb}
use Rattle.word_arithmetic.specs.Bits.{negative}
use Rattle.word_arithmetic.specs.Sums.{complement}

-- the top 12 bits are a or b
abbrev pub top_is : ℕ → ℕ → ℕ → Bool
top_is x a b = eqb (x / 2 ^ 48) a || eqb (x / 2 ^ 48) b

-- document 01, 03: "out of range (top 12 bits 3777 or 4000)", which document 02 calls infinite
abbrev pub is_infinite : ℕ → Bool
is_infinite x = top_is x 0o3777 0o4000

-- "indefinite (1777 or 6000)"
abbrev pub is_indefinite : ℕ → Bool
is_indefinite x = top_is x 0o1777 0o6000

-- special: not finite
abbrev pub is_special : ℕ → Bool
is_special x = is_infinite x || is_indefinite x

-- one of two operands
abbrev pub either_infinite : ℕ → ℕ → Bool
either_infinite x y = is_infinite x || is_infinite y

abbrev pub either_indefinite : ℕ → ℕ → Bool
either_indefinite x y = is_indefinite x || is_indefinite y

-- the signs of two words differ
abbrev pub unlike_signs : ℕ → ℕ → Bool
unlike_signs x y = cond (negative 60 x) (not (negative 60 y)) (negative 60 y)

-- "complemented where negative"
unfoldable pub signed : Bool → ℕ → ℕ
signed minus w = cond minus (complement 60 w) w

-- document 02, (f): "An infinity given is 3777 and zeros, complemented where negative."
abbrev pub infinity_word : Bool → ℕ
infinity_word minus = signed minus (0o3777 * 2 ^ 48)

-- an indefinite word given is "1777 and zeros", whatever the signs
abbrev pub indefinite_word : ℕ
indefinite_word = 0o1777 * 2 ^ 48
