-- Consequences of the definitions.
pub mod Stint
pub mod Projection
pub mod OneJob
