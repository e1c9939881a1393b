-- Consequences of the definitions.
pub mod Field
pub mod Stint
