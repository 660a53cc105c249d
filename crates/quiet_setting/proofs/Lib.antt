pub mod Turning
pub mod Visiting
