pub mod Level
pub mod Labelled
