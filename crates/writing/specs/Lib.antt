pub mod Written
pub mod Own
