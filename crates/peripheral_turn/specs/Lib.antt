-- The definitions that the contracts of `peripheral_turn` cite, over those of `peripheral_codes` and `peripheral_io`. A reader has to believe these;
-- `Laws` is proved from them.
pub mod Turn
pub mod Laws
