-- The definitions that the contracts of `central_effect` cite, over those of `central_registers` and `central_decode`. A reader has to
-- believe these, but for `Sound`, which only says what an effect may name; `Laws` is proved from them.
-- codes 24 and 30 to 33
pub mod Floating
-- every code
pub mod Effects
pub mod Sound
pub mod Laws
