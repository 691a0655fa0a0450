pub mod Taking
pub mod Degrees
pub mod Filling
pub mod Columns
pub mod Answering
pub mod Poles
