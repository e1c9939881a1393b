-- Consequences of the definitions.
pub mod Parcels
pub mod Instruction
pub mod Shifted
