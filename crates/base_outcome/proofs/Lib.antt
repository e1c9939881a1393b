-- Theorems that rest on definitions which edits change.
pub mod Numbers
