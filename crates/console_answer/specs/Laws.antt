-- Consequences of the definitions.
pub mod Lengths
pub mod Room
pub mod Stints
pub mod Words
