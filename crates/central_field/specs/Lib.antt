-- The definitions that the contracts of `central_field` cite. A reader has to believe these; `Laws` is proved from them.
pub mod Address
pub mod Laws
