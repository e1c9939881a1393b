-- Consequences of the definitions.
pub mod Back
pub mod Write
pub mod Results
pub mod Again
