-- Consequences of the definitions.
pub mod Text
pub mod Value
pub mod Branches
pub mod Long
pub mod Reads
pub mod Says
pub mod Widths
