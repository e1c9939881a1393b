-- The definitions that the contracts of `peripheral_codes` cite. A reader has to believe these, but for `Widths`, which only says what the
-- functions ask for; `Laws` is proved from them.
-- m + (d)
pub mod IndexSum
pub mod Addresses
-- 00 to 07
pub mod Jumps
-- 10 to 17, 20 to 23
pub mod Constants
-- 30 to 57
pub mod Memory
pub mod Widths
pub mod Laws
