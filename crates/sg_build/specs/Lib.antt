pub mod Letters
pub mod Forms
pub mod FormLaws
pub mod Expressions
pub mod Points
pub mod Placed
pub mod TermValues
pub mod Found
