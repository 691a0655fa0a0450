pub mod Lowest
pub mod Fitting
pub mod Operating
pub mod Joining
pub mod Folding
pub mod LeftParts
pub mod Climbing
