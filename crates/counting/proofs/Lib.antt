pub mod Sum
pub mod Most
pub mod Count
pub mod Matrix
pub mod Pigeonhole
pub mod Hall
