pub mod Growth
pub mod Ratios
pub mod Factors
pub mod Expressed
pub mod Sound
pub mod Products
pub mod Standing
pub mod Stepping
pub mod None
pub mod Summing
pub mod Items
pub mod Written
pub mod Widening
pub mod Listed
mod PowerProductExamples
pub mod Among
