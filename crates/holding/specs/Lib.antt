pub mod Standing
pub mod Matching
pub mod Holding
