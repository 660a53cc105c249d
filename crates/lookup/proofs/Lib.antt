pub mod Force
pub mod Lookup
pub mod Meaning
pub mod Examples
pub mod Codes
