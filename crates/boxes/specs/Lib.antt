pub mod Bounds
pub mod Siblings
pub mod Stands
