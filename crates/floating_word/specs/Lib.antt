-- The definitions that the contracts of `floating_word` cite. A reader has to believe these, but for `Halves` and `Widths`: of halves no definition
-- of a result is made, and `Widths` only says what the functions ask for. `Laws` is proved from them.
-- infinite and indefinite words
pub mod Special
-- a finite word's sign, size and exponent; the limits
pub mod Number
-- what a finite word is
pub mod Finite
-- sizes as the code has them
pub mod Halves
pub mod Widths
pub mod Laws
