pub mod Room
pub mod Divided
pub mod Answer
pub mod Promise
