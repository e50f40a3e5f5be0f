pub mod Compatible
pub mod Read
pub mod Eight
pub mod Found
pub mod Own
pub mod Located
pub mod Valued
pub mod Checked
