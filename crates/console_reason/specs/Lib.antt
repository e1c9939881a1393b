-- The definitions that the contracts of `console_reason` cite. A reader has to believe these; `Laws` is proved from them.
pub mod Text
pub mod Reason
pub mod Laws
