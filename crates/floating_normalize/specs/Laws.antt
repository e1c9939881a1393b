-- Consequences of the definitions.
pub mod Places
pub mod Normalized
