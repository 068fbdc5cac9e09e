pub mod Adding
pub mod Trails
pub mod Carded
