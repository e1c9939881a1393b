-- Consequences of the definitions.
pub mod BytesRead
pub mod LineBytes
pub mod Verdict
pub mod Feeding
pub mod Input
