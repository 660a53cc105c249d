pub mod Record
pub mod Bytes
pub mod Write
pub mod Laying
