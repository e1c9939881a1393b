-- Theorems that rest on definitions which edits change.
pub mod Frame
pub mod Rounds
