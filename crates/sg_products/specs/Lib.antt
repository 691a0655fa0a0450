pub mod Readings
pub mod Solving
pub mod Supports
