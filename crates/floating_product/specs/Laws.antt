-- Consequences of the definitions.
pub mod Columns
pub mod Products
pub mod Powers
pub mod Wholes
pub mod Complemented
pub mod Rebuilt
pub mod Normal
