-- Theorems on the records that are lent.
pub mod Lent
