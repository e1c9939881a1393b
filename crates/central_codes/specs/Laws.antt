-- Consequences of the definitions.
pub mod Codes
pub mod Table
