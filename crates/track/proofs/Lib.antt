pub mod OwnBytes
pub mod Stepping
pub mod Judging
pub mod Fragments
pub mod Table
pub mod Unique
pub mod Dummies
