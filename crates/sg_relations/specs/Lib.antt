pub mod Columns
pub mod Signs
pub mod Shortest
pub mod Factors
pub mod Parts
pub mod Relating
pub mod Combined
