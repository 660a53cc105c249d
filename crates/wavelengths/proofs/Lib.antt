pub mod Shared
pub mod Report
pub mod Promise
