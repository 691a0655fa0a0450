pub mod Joining
pub mod Substitution
