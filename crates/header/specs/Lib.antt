pub mod Places
pub mod Bodies
pub mod Answers
