-- Consequences of the definitions.
pub mod IndexSum
pub mod Addresses
-- every effect names places that are there, and values of their widths
pub mod Effects
