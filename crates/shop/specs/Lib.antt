pub mod Sets
pub mod Kept
pub mod Shopped
