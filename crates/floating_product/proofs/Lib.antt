pub mod Digits
pub mod Steps
