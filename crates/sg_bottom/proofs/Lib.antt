pub mod Factors
pub mod Solving
pub mod ConstantFactor
