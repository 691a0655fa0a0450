pub mod Reductions
pub mod Systems
