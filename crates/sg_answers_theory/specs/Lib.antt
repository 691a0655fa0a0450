pub mod Recurrences
pub mod Matches
pub mod Answers
