-- Consequences of the definitions.
pub mod Lent
pub mod Read
