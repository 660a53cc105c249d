pub mod Standing
pub mod Loading
pub mod Planning
