pub mod Chains
pub mod Cutting
pub mod Trimming
