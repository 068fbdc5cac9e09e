pub mod Giving
pub mod Parsing
pub mod Readers
pub mod Scanned
