pub mod Exactly
pub mod FreeInValues
pub mod Walking
mod ProductExamples
mod NoneForFactorial
mod NoRecurrenceForBinomial
