pub mod Aims
pub mod Entries
pub mod Shelves
pub mod Times
