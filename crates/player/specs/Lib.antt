pub mod Cases
pub mod Switching
pub mod InChunks
