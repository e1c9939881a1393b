-- The definitions that the contracts of `whole_processors` cite. A reader has to believe these; `Laws` is proved from them.
pub mod Processors
pub mod Laws
