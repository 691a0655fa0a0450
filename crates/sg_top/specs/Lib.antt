pub mod Answer
pub mod Code
pub mod Ending
pub mod Lines
pub mod Output
pub mod Refusals
pub mod Stages
pub mod Taking
