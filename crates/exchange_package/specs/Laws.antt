-- Consequences of the definitions.
pub mod Package
pub mod Example
