-- The definitions that the contracts of `central_registers` cite. A reader has to believe these, but for `Widths`, which only says what
-- the functions ask for and give; `Laws` is proved from them.
pub mod Registers
pub mod Widths
pub mod Laws
