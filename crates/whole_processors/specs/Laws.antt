-- Consequences of the definitions.
-- what turns keep, and the loop over them
pub mod Processors
