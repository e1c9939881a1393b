-- The definitions that the contracts of `central_decode` cite. A reader has to believe these, but for `Widths`, which only says what
-- the functions give, and `Shifted`, of which no definition of a turn is made; `Laws` is proved from them.
pub mod Parcels
pub mod Instruction
pub mod Shifted
pub mod Widths
pub mod Laws
