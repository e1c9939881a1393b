-- Consequences of the definitions.
pub mod Lines
pub mod Follow
pub mod Read
pub mod Grammar
pub mod Memory
pub mod Refused
pub mod Words
pub mod Blocks
pub mod Entries
pub mod Store
pub mod Jobs
