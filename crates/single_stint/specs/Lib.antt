-- The definitions that the contracts of `single_stint` cite. A reader has to believe these; `Laws` is proved from them.
-- turns on a field
pub mod Field
pub mod Stint
pub mod Laws
