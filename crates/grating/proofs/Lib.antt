pub mod First
pub mod Made
pub mod Divided
pub mod Answer
