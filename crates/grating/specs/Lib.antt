pub mod Grating
pub mod Parts
