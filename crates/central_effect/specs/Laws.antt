-- Consequences of the definitions.
pub mod Effects
pub mod Constant
