-- Consequences of the definitions.
pub mod Record
pub mod Widths
