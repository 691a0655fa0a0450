pub mod Leads
pub mod Places
pub mod Spans
pub mod Adding
pub mod Solutions
pub mod Unique
pub mod Full
