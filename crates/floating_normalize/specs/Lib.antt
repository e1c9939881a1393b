-- The definitions that the contracts of `floating_normalize` cite. A reader has to believe these; `Laws` is proved from them.
-- 24
pub mod Normalized
pub mod Laws
