pub mod Asking
pub mod Bits
pub mod Judgeable
pub mod Marking
pub mod Missing
