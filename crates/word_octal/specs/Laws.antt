-- Consequences of the definitions.
pub mod Read
pub mod Text
pub mod Write
pub mod Again
pub mod Writes
