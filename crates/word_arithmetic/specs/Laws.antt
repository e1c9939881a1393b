-- Consequences of the definitions, for every width where they hold for every width.
pub mod Bits
pub mod Sums
pub mod Logic
