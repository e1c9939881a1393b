-- Consequences of the definitions.
pub mod Text
pub mod Kept
pub mod Whole
pub mod Number
