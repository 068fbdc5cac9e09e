pub mod Indexing
pub mod Least
