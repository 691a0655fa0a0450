pub mod Commands
pub mod Summands
pub mod Jobs
