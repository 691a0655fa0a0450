pub mod Special
pub mod Combined
pub mod Signs
pub mod Numbers
pub mod Existing
pub mod TermsExist
pub mod Turned
pub mod Lowest
pub mod Somewhere
pub mod Listed
pub mod Membership
pub mod Usable
pub mod Clearing
pub mod Inside
pub mod Recurring
pub mod Recurrence
pub mod There
pub mod Divisors
pub mod OverTower
pub mod Shifting
mod RangeExamples
mod ListExamples
