pub mod Factors
pub mod Functions
