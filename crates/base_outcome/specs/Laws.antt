-- Consequences of the definitions.
pub mod Verdict
