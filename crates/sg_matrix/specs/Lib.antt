pub mod Systems
pub mod Steps
pub mod NullBasis
