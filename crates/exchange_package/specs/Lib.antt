-- The definitions that the contracts of `exchange_package` cite. A reader has to believe these; `Laws` is proved from them.
pub mod Package
pub mod Laws
