pub mod Merging
pub mod Fitted
pub mod Groups
pub mod Keeping
pub mod Deciding
pub mod Fronting
