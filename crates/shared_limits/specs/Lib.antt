-- The definitions that the contracts of `shared_limits` cite. A reader has to believe these; `Laws` is proved from them.
pub mod Limits
pub mod Laws
