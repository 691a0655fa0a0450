pub mod Planes
pub mod Recurrences
pub mod Ranges
pub mod Below
pub mod Listing
pub mod RecurrenceLines
pub mod Answers
