pub mod Wholes
pub mod Marks
pub mod Commands
pub mod Listed
pub mod Jobs
