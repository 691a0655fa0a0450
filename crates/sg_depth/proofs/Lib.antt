pub mod Calls
pub mod Constants
pub mod Grown
pub mod Inspected
