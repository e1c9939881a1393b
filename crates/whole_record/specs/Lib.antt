-- The definitions that the contracts of `whole_record` cite. A reader has to believe these; `Laws` is proved from them.
-- number 5
pub mod Record
-- the record as 84 numbers, and back
pub mod Numbers
pub mod Laws
