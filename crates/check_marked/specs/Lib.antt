-- The marked results of document 01. A reader has to believe `Marked`, the table; `Laws` proves it.
pub mod Marked
pub mod Laws
