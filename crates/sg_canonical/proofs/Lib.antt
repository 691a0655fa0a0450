pub mod CommonDenominator
pub mod WholeQuotients
pub mod Unique
pub mod Writing
pub mod Lowest
pub mod Turned
pub mod Runs
pub mod RationalTrees
