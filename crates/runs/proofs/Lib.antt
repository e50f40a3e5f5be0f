pub mod First
pub mod Flags
pub mod Formed
pub mod Rows
pub mod Sums
pub mod Steps
pub mod Walked
