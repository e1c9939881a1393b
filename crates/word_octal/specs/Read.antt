-- A number in octal digits, read byte by byte.
use Rattle.std.specs.Prelude.{Bool, ◌&&◌, ◌||◌, cond, Option, Some, None, ℕ, ◌+◌, ◌-◌, ◌*◌, ◌^◌, ltb, leb, eqb}
use Rattle.word_octal.specs.declared.read.Fed.{Fed}
use Rattle.word_octal.specs.declared.read.Fed.TheVariants.{More, Number, Nothing, Unreadable}

-- the digits of one number that were read so far: their value, if there are any
abbrev pub no_digits : Option ℕ
no_digits = None

abbrev pub value_so_far : Option ℕ → ℕ
value_so_far None = 0
value_so_far (Some v) = v

-- the digits 0 to 7, and the space and the line feed, which end a number
abbrev pub is_digit : ℕ → Bool
is_digit byte = leb 48 byte && leb byte 55

abbrev pub is_end : ℕ → Bool
is_end byte = eqb byte 32 || eqb byte 10

abbrev pub digit_in : ℕ → Option ℕ
digit_in byte = cond (is_digit byte) (Some (byte - 48)) None

-- one more digit; the value is below 2^64 or the number is not read
unfoldable pub after_digit : Option ℕ → ℕ → Fed
after_digit d n = cond (ltb (value_so_far d * 8 + n) (2 ^ 64)) (More (Some (value_so_far d * 8 + n))) Unreadable

unfoldable pub after_end : Option ℕ → Fed
after_end None = Nothing
after_end (Some v) = Number v

unfoldable pub feed_of : Option ℕ → ℕ → Fed
feed_of d byte = cond (is_end byte) (after_end d) (cond (is_digit byte) (after_digit d (byte - 48)) Unreadable)
