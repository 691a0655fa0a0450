pub mod Exponents
pub mod Elements
