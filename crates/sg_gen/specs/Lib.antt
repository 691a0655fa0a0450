pub mod Drawing
pub mod Sample
