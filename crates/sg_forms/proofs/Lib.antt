pub mod Writing
pub mod Facts
pub mod Towers
pub mod Commands
