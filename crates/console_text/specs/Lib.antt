-- The definitions that the contracts of `console_text` cite. A reader has to believe these; `Laws` is proved from them.
pub mod Names
pub mod Line
pub mod Laws
