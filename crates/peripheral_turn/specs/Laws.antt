-- Consequences of the definitions.
-- every effect names places that are there, and values of their widths
pub mod Effects
pub mod Turn
pub mod Frame
