-- The definitions that the contracts of `check_probe` cite.
pub mod Room
