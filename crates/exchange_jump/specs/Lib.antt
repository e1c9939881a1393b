-- The definitions that the contracts of `exchange_jump` cite. A reader has to believe these; `Laws` is proved from them.
-- the exchange jump, and numbers 9, 10 and 11
pub mod Jump
-- what no number refuses
pub mod Accepted
pub mod Laws
