pub mod CardRules
pub mod Entries
pub mod Findings
pub mod Marks
pub mod Sets
