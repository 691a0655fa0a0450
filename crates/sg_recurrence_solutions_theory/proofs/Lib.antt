pub mod Orders
pub mod Unrolling
pub mod Denominators
