pub mod Bounds
pub mod Signs
pub mod Turns
