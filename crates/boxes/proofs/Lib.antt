pub mod Containers
pub mod Headers
pub mod Walks
pub mod Stands
