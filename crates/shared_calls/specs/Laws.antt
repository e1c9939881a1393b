-- Consequences of the definitions.
pub mod Stints
pub mod Answer
pub mod Isolation
pub mod OneJob
