-- Consequences of the definitions.
pub mod Stop
pub mod Step
pub mod Turn
pub mod Remaining
pub mod Shifted
pub mod Run
pub mod Place
