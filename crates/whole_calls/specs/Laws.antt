-- Consequences of the definitions.
pub mod Call
