-- Consequences of the definitions.
-- what an accepted call lends, and that what is handed back may be lent again
pub mod Verdict
pub mod Example
