-- The definitions that the contracts of `word_shift` cite. A reader has to believe these; `Laws` is proved from them.
-- 20, 21, 43, 47, and the peripheral shift code
pub mod Shifts
-- 22 and 23
pub mod Nominal
-- 26 and 27
pub mod Floating
pub mod Laws
