pub mod Full
pub mod Lawful
