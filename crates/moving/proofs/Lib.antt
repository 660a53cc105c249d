pub mod Moved
pub mod Bytes
pub mod Answer
pub mod Back
pub mod Laying
