-- The definitions that the contracts of `host_record` cite. A reader has to believe these; `Laws` and the theorems of proofs/ are proved from them.
-- where each value of a record stands
pub mod Layout
-- which slices are records
pub mod Lent
pub mod Laws
