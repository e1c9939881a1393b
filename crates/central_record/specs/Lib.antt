-- The definitions that the contracts of `central_record` cite. A reader has to believe these; `Laws` is proved from them.
-- numbers 1, 3 and 5 of document 01
pub mod Record
pub mod Laws
