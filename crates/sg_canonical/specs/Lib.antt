pub mod Whole
pub mod Signs
pub mod Parts
pub mod Rational
