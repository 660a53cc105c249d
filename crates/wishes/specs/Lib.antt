pub mod Record
pub mod Fault
pub mod Seen
pub mod Wishes
