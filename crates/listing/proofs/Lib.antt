pub mod Ports
pub mod Room
pub mod Answers
pub mod Examples
