-- Theorems that rest on definitions which edits change.
pub mod Findings
pub mod ListFaults
pub mod OwnerFaults
pub mod Search
