pub mod NoSum
