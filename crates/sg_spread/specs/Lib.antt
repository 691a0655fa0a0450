pub mod Powers
pub mod Shifts
pub mod Splits
pub mod Lists
