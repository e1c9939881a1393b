-- The definitions that the contracts of `peripheral_channel` cite. A reader has to believe these; `Laws` is proved from them.
-- the width of a channel's word
pub mod Fits
-- codes 70, 72 and 74 to 77 of document 01
pub mod Codes
pub mod Laws
