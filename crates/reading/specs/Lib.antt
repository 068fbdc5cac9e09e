pub mod Entered
pub mod Faults
pub mod Read
