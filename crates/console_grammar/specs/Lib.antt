-- The definitions that the contracts of `console_grammar` cite. A reader has to believe Lines, and Grammar or Reading, for what an input asks for:
-- proofs/Grammar.antt shows that these two say the same. For what a line leaves in the lent memory and lists, Held and Store.
pub mod Lines
pub mod Reading
pub mod Grammar
pub mod Held
pub mod Store
pub mod Lent
pub mod Applied
pub mod Laws
