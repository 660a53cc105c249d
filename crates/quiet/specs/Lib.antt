pub mod Planned
pub mod Taking
pub mod Lent
