pub mod Counted
pub mod Cutting
pub mod Taking
