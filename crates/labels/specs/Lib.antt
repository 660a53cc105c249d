pub mod Ports
pub mod Rows
