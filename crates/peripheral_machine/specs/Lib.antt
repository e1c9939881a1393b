-- The definitions that the contracts of `peripheral_machine` cite. A reader has to believe these, but for `Widths`, which only says what the
-- functions ask for; `Laws` is proved from them.
-- the record as 84 numbers
pub mod Numbers
pub mod Machine
-- what an effect does
pub mod Apply
pub mod Widths
pub mod Laws
