pub mod PowerProducts
