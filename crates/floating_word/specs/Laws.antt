-- Consequences of the definitions.
pub mod Special
pub mod Number
pub mod Halves
