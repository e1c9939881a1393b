-- The definitions that the contracts of `peripheral_io` cite, over those of `peripheral_codes`. A reader has to believe these; `Laws` is proved
-- from them.
-- 26, 60, 62
pub mod CentralSide
-- 64 to 67, 70, 72, 74 to 77
pub mod Channels
pub mod Laws
