pub mod Faults
pub mod Pairs
pub mod Cells
pub mod Answers
