pub mod Places
pub mod Fine
