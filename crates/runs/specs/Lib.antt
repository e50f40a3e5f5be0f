pub mod Rows
pub mod Runs
pub mod Samples
pub mod Trun
