pub mod Plain
pub mod Sums
pub mod Lowest
pub mod Terms
