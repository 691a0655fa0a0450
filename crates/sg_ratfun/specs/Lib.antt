pub mod Reduced
pub mod Gathered
pub mod Fractions
