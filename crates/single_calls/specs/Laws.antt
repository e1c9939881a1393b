-- Consequences of the definitions.
pub mod RecordCalls
pub mod Turns
pub mod FieldRun
pub mod Program
