pub mod Forms
pub mod Standings
