-- The definitions that the contracts of `console_answer` cite. A reader has to believe these; `Laws` is proved from them.
pub mod Text
pub mod Laws
