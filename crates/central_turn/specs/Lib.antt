-- The definitions that the contracts of `central_turn` cite, over those of `central_apply`. A reader has to believe these, but for `Remaining`, of which
-- no definition of a turn is made; `Laws` is proved from them.
pub mod Turn
pub mod Remaining
pub mod Laws
