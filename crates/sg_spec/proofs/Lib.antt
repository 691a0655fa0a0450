pub mod Fractions
pub mod Values
pub mod Totals
pub mod Worth
pub mod Results
pub mod Examples
pub mod TextExamples
