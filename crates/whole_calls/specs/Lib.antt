-- The definitions that the contracts of `whole_calls` cite. A reader has to believe these; `Laws` is proved from them.
pub mod Call
pub mod Laws
