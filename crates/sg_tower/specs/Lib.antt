pub mod Elements
pub mod Terms
