-- The definitions that the contracts of `whole_device` cite. A reader has to believe these; `Laws` is proved from them.
-- the device calls, and numbers 5, 13, 14 and 15
pub mod Device
pub mod Laws
