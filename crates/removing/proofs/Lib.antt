pub mod Held
pub mod Telling
pub mod Ranging
pub mod Removed
