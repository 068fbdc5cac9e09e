pub mod Parsed
pub mod Shown
pub mod Steps
pub mod Faults
pub mod Scans
pub mod Counts
pub mod Iterating
