pub mod Course
pub mod Cursor
