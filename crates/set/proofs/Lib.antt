pub mod Beside
pub mod Following
pub mod Outcomes
pub mod Unique
pub mod Dummies
