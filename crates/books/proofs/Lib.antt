pub mod Aiming
pub mod Layering
pub mod Seeking
