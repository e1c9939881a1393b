-- Consequences of the definitions.
-- what a turn of the central processor keeps
pub mod Central
