pub mod Flattened
pub mod Polynomials
