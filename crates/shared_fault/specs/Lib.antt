-- The definitions that the contracts of `shared_fault` cite. A reader has to believe these; `Laws` and the theorems of proofs/ are proved from them.
-- the first number that a test refuses
pub mod Search
-- find_fault
pub mod Fault
pub mod Laws
