-- The definitions that the contracts of `console_line` cite. A reader has to believe these; `Laws` is proved from them.
pub mod Form
pub mod Laws
