-- Consequences of the definitions.
-- the turn of a word with one instruction and three that pass
pub mod Words
-- turns of the codes that the table names
pub mod Codes
-- all marked results hold
pub mod Marked
