-- One line of the console's answer, as bytes.
use Rattle.std.specs.Prelude.{cond, List, [], ◌∷◌, ◌++◌, ℕ, zero, suc, ◌+◌, ◌/◌, ◌%◌, eqb}

-- v in decimal digits without leading zeros, before a text; where it has more than n digits, the last n
unfoldable pub decimal_before : ℕ → ℕ → List ℕ → List ℕ
decimal_before zero v text = text
decimal_before (suc n) v text =
    cond (eqb (v / 10) 0) ((48 + v % 10) ∷ text) (decimal_before n (v / 10) ((48 + v % 10) ∷ text))

abbrev pub decimal_in : ℕ → ℕ → List ℕ
decimal_in n v = decimal_before n v []

-- "the numbers of refusals and stops" are decimal, and below 100
abbrev pub decimal : ℕ → List ℕ
decimal n = decimal_in 2 n

-- a number below 2^64, which 20 digits hold
abbrev pub decimal_number : ℕ → List ℕ
decimal_number n = decimal_in 20 n

-- a line: a name with its equals sign, a value, the line feed
abbrev pub line : List ℕ → List ℕ → List ℕ
line name value = name ++ (value ++ (10 ∷ []))
