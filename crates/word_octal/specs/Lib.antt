-- The definitions that the contracts of `word_octal` cite. A reader has to believe these; `Laws` is proved from them.
pub mod Read
pub mod Text
pub mod Write
pub mod Writes
pub mod Laws
