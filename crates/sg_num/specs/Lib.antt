pub mod Value
pub mod Steps
pub mod Stopped
pub mod Probe
pub mod Laws
pub mod Roots
pub mod Scaled
