-- Consequences of the definitions.
pub mod Widths
