-- Consequences of the definitions.
pub mod Owners
