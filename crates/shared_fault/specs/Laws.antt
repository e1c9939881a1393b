-- Consequences of the definitions.
-- the tests before a refusal, and its own
pub mod Order
