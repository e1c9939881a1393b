-- The definitions that the contracts of `console_reader` cite. `Laws` shows that what a reader holds comes to the reading of the whole input, which
-- `console_grammar` defines.
pub mod LineBytes
pub mod Reader
pub mod Fed
pub mod Laws
