pub mod Read
pub mod Written
pub mod Lengths
