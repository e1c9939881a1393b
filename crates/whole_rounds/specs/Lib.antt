-- The definitions that the contracts of `whole_rounds` cite. A reader has to believe these; `Laws` and the theorems of proofs/ are proved from them.
pub mod Rounds
pub mod Laws
