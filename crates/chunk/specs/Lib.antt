pub mod Answers
pub mod Bodies
pub mod Layout
