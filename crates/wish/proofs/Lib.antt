pub mod Ceiling
pub mod Answer
pub mod Floats
pub mod Nearest
pub mod Rounding
pub mod Rows
pub mod Worth
pub mod Above
