pub mod Outputs
pub mod Listing
