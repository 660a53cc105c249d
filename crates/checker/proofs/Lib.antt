pub mod Cover
pub mod Check
pub mod Passes
