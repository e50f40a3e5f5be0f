pub mod Walked
pub mod Plain
pub mod Firsts
pub mod Judged
