-- What digits leave of the text into which they are written.
pub mod Field
