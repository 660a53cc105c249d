pub mod Keep
pub mod Uncovered
pub mod Laying
pub mod Whole
pub mod Order
pub mod Taking
