pub mod Signs
pub mod Terms
pub mod Numbers
pub mod Probed
pub mod WholeSteps
pub mod WholeValues
pub mod Scanned
pub mod Units
