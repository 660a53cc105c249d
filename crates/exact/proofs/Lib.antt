pub mod Turn
pub mod Fitting
pub mod Outcome
pub mod Promise
