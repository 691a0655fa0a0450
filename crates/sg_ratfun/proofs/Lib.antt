pub mod Monics
pub mod Coprimes
pub mod Quotients
pub mod Steps
pub mod Shifts
pub mod Probing
pub mod Constants
