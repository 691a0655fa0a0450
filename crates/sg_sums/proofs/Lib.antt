mod Adding
pub mod Building
mod Extending
mod Flattening
mod NextRows
mod Shifting
mod Solving
mod Skipping
mod Steps
mod Trivial
mod Zeros
