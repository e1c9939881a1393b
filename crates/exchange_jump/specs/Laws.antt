-- Consequences of the definitions.
pub mod Verdicts
pub mod Jump
