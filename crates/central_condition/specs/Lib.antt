-- The definitions that the contracts of `central_condition` cite. A reader has to believe these.
-- 03 to 07
pub mod Conditions
