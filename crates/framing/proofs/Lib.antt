pub mod Steps
pub mod Rows
pub mod Outcome
pub mod Unique
pub mod Dummies
