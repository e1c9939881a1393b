-- Consequences of the definitions.
-- what number 5 lets by
pub mod Record
-- the record as 84 numbers and back is the record
pub mod Numbers
pub mod Literal
