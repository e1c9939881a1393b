-- Consequences of the definitions.
pub mod Print
pub mod Kept
pub mod Finish
pub mod Pieces
pub mod Length
pub mod Host
pub mod Words
