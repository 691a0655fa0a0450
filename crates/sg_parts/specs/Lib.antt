pub mod Planes
pub mod Weights
pub mod Zeros
pub mod Normal
