pub mod Facts
pub mod Closings
pub mod Starting
