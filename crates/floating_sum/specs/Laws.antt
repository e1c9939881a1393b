-- Consequences of the definitions.
pub mod Placed
pub mod Sums
pub mod Together
