pub mod Read
pub mod Pass
pub mod Fine
pub mod Trips
pub mod Laid
pub mod Accepted
