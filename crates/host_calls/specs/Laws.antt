-- Consequences of the definitions.
pub mod Central
pub mod Schedule
pub mod Machine
pub mod Device
