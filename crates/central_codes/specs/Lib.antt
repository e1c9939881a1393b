-- The definitions that the contracts of `central_codes` cite. A reader has to believe these; `Laws` is proved from them.
pub mod Codes
pub mod Table
pub mod Laws
