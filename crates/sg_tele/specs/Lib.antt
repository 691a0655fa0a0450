pub mod Telescoping
