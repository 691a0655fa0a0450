pub mod Ranges
pub mod Table
pub mod Stack
pub mod Parts
pub mod Drafts
pub mod Machines
