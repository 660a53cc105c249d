pub mod Pieces
pub mod Joined
pub mod Answer
pub mod Sums
pub mod Twice
