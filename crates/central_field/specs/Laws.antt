-- Consequences of the definitions.
pub mod Address
