pub mod Same
pub mod Sums
pub mod Setting
pub mod Chain
pub mod Entries
pub mod Grants
pub mod Next
