pub mod Turns
pub mod Visits
pub mod Around
