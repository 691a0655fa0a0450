pub mod Shares
pub mod Multiples
pub mod Conditions
pub mod Reductions
