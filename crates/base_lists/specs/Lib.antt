-- The definitions on lists that contracts of many crates cite. A reader has to believe these; `Laws` is proved from them.
-- a test of every entry, a list by its entries
pub mod Indexed
-- the words from a place up, read and replaced
pub mod Parts
-- rows of numbers
pub mod Rows
-- words in common
pub mod Overlap
-- numbers written one after the other
pub mod Written
pub mod Laws
