-- Consequences of the definitions.
pub mod Each
pub mod Indexed
pub mod Parts
pub mod Overlap
pub mod Written
pub mod Rows
pub mod Tested
