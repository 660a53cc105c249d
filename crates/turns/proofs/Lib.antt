pub mod Ways
pub mod Dividing
pub mod Turns
pub mod Holds
pub mod Divided
pub mod Both
