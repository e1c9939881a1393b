-- The definitions that the contracts of `central_apply` cite. A reader has to believe these, but for `Widths`, which only says what the
-- functions ask for.
pub mod State
pub mod Apply
pub mod Widths
