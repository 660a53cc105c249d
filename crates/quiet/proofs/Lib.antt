pub mod Taking
pub mod Running
pub mod Planning
