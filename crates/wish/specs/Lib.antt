pub mod Wish
pub mod Meaning
