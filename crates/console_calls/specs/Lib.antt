-- The definitions that the contracts of `console_calls` cite. A reader has to believe these; `Laws` is proved from them.
pub mod Console
pub mod Finish
pub mod Laws
