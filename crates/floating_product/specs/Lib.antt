-- The definitions that the contracts of `floating_product` cite. A reader has to believe these, but for `Halves`, of which no definition of a
-- product is made; `Laws` is proved from them.
-- 40 and 42
pub mod Products
-- products as the code has them
pub mod Halves
-- what the upper and the lower half of a product are together
pub mod Rebuilt
pub mod Laws
