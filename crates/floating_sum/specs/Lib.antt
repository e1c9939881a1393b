-- The definitions that the contracts of `floating_sum` cite. A reader has to believe these, but for `Halves`, of which no definition of a sum is
-- made; `Laws` is proved from them.
-- 30 to 33
pub mod Sums
-- sizes as the code has them
pub mod Halves
-- what the upper and the lower half of a sum are together
pub mod Together
pub mod Laws
