-- Consequences of the definitions.
pub mod Bytes
pub mod Decimal
