pub mod Read
pub mod Plans
pub mod Trips
pub mod Reading
pub mod Pass
pub mod Stepping
