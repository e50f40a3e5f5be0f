pub mod First
pub mod Formed
pub mod Judged
