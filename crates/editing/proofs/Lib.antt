pub mod Blocks
pub mod Counting
pub mod Descent
pub mod Holding
pub mod Reaching
