-- The definitions that the contracts of `word_arithmetic` cite. A reader has to believe these; `Laws` is proved from them.
-- document 01, "Arithmetic", for n bits
pub mod Bits
pub mod Sums
-- 10 to 17, and the peripheral logical codes
pub mod Logic
pub mod Laws
