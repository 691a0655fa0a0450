pub mod Divisor
pub mod Ring
pub mod Coefficients
pub mod Fraction
pub mod Datum
