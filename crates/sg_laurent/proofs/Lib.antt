pub mod Comparing
pub mod Listing
pub mod Gathering
pub mod Adding
pub mod Coefficients
