pub mod Standing
pub mod Sums
pub mod Stepping
pub mod Items
pub mod Listed
pub mod Summing
