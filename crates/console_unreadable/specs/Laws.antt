-- Consequences of the definitions.
pub mod Tracker
pub mod Exact
pub mod Held
pub mod Whole
