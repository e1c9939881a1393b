-- Consequences of the definitions.
-- 26 stops where its package is refused
pub mod CentralSide
-- every effect names places that are there, and values of their widths
pub mod Channels
