-- Consequences of the definitions.
pub mod Width
pub mod Device
