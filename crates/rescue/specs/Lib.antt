pub mod Keeping
pub mod Rescue
