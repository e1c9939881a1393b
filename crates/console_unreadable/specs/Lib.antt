-- The definitions that the contracts of `console_unreadable` cite. A reader has to believe these; `Laws` shows that a tracker finds the first
-- unreadable line of the whole input.
pub mod Rule
pub mod Unreadable
pub mod Tracker
pub mod Laws
