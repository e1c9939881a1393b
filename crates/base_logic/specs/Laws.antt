-- Tests, choices and the arms of a match.
pub mod Choice
pub mod Tests
pub mod Match
