pub mod First
pub mod Fill
pub mod Search
pub mod Peel
pub mod Exact
pub mod Doubled
pub mod Quick
pub mod Larger
