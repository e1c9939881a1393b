-- Consequences of the definitions.
pub mod Limits
