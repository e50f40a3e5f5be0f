pub mod Rest
pub mod State
pub mod Form
pub mod Steps
pub mod Agreeing
pub mod Later
pub mod Dummies
