-- Consequences of the definitions.
pub mod Width
