pub mod Release
pub mod Left
pub mod Starting
