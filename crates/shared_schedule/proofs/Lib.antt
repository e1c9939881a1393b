-- Theorems that rest on definitions which edits change.
pub mod Example
pub mod Isolation
pub mod Refusals
pub mod Sum
