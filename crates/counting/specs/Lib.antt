pub mod Sum
pub mod Count
pub mod Matrix
