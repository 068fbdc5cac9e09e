pub mod Faults
pub mod Marks
pub mod Widths
