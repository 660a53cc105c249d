pub mod Shared
pub mod Report
