pub mod Divisors
pub mod Plane
pub mod Polynomials
pub mod Splits
