-- What a reader has to believe, in the order in which it is best read.
pub mod Characters
pub mod Lines
pub mod Datasets
pub mod Files
pub mod Books
pub mod Kinds
pub mod Tables
pub mod Rules
pub mod Cards
pub mod Removal
pub mod Refusals
pub mod Runs
pub mod Calls
pub mod Laws
-- The same by example.
pub mod Examples
-- What helps the proofs of the code: the rules once more, by the steps that a loop takes.
pub mod Bytes
pub mod Scan
pub mod LineTurns
pub mod Grammar
pub mod Index
pub mod Positions
pub mod Edits
