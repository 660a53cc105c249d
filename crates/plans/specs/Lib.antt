pub mod Read
pub mod Reading
