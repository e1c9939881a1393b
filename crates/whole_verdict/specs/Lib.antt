-- The definitions that the contracts of `whole_verdict` cite. A reader has to believe these; `Laws` is proved from them.
-- numbers 1 to 5 and 8
pub mod Verdict
pub mod Laws
