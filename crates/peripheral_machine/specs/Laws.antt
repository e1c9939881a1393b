-- Consequences of the definitions.
pub mod Apply
pub mod Widths
pub mod Keeps
pub mod Frame
