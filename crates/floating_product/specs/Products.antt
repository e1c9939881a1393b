-- The floating products, 40 and 42, by document 02, (g). Sizes and products are whole numbers.
use Rattle.std.specs.Prelude.{ℕ, ◌+◌, ◌*◌, ◌/◌, ◌%◌, ◌^◌, Bool, false, not, cond, ◌&&◌, ◌||◌, eqb, leb, ltb}
use Rattle.floating_word.specs.Special.{is_indefinite, is_special, either_infinite, either_indefinite, unlike_signs, signed, infinity_word, indefinite_word}
use Rattle.floating_word.specs.Number.{number_in, word_of}
use Rattle.floating_word.specs.declared.number.Number.{Number}

-- "normalized": bit 47 of the 48-bit size is set
abbrev pub is_normal : ℕ → Bool
is_normal size = leb (2 ^ 47) size

-- "If both operands are normalized and the product is below 2^95"
abbrev pub moves_left : ℕ → ℕ → Bool
moves_left a b = is_normal a && is_normal b && ltb (a * b) (2 ^ 95)

-- "it moves left one place": the places by which it moves
unfoldable pub left_move : ℕ → ℕ → ℕ
left_move a b = cond (moves_left a b) 1 0

-- "the exact product of the two 48-bit sizes", as moved
abbrev pub moved_product : ℕ → ℕ → ℕ
moved_product a b = a * b * 2 ^ left_move a b

-- "40 takes the upper half with the exponents' sum plus 48, 42 the lower with the sum."
abbrev pub product_size : Bool → ℕ → ℕ
product_size lower n = cond lower (n % 2 ^ 48) (n / 2 ^ 48)

abbrev pub exponent_sum : Bool → Number → Number → ℕ
exponent_sum lower x y = cond lower (x.biased + y.biased) (x.biased + y.biased + 48)

-- "and the exponent falls by one" where the product moves. Each exponent stands as e + 1023, so the sum of two falls by 1023 besides.
abbrev pub exponent_fall : Number → Number → ℕ
exponent_fall x y = 1023 + left_move x.size y.size

-- the product of two finite numbers, before its complement
unfoldable pub product_half : Bool → Number → Number → ℕ
product_half lower x y =
    word_of false (exponent_sum lower x y) (exponent_fall x y) (product_size lower (moved_product x.size y.size))

-- "A finite operand of zero coefficient"
abbrev pub is_zero_operand : ℕ → Bool
is_zero_operand x = not (is_special x) && eqb (number_in x).size 0

abbrev pub either_zero : ℕ → ℕ → Bool
either_zero x y = is_zero_operand x || is_zero_operand y

-- it "gives indefinite with infinity and a word of all zeros with a finite one, whatever the exponents; infinity with any other finite
-- operand, or with infinity of either sign, gives infinity." "The limits, special words and stops are those of the floating sums": an
-- indefinite operand gives 1777 and zeros.
unfoldable pub product_word : Bool → ℕ → ℕ → ℕ
product_word lower x y =
    cond (either_indefinite x y || either_infinite x y && either_zero x y) indefinite_word
    (cond (either_infinite x y) (infinity_word false)
    (cond (either_zero x y) 0
    (product_half lower (number_in x) (number_in y))))

-- "The result is complemented where signs differ, unless indefinite or all zeros."
abbrev pub is_complemented : Bool → ℕ → Bool
is_complemented differ w = differ && not (is_indefinite w || eqb w 0)

-- 40, and 42, which gives the lower half
unfoldable pub floating_product : Bool → ℕ → ℕ → ℕ
floating_product lower xj xk =
    signed (is_complemented (unlike_signs xj xk) (product_word lower xj xk)) (product_word lower xj xk)
