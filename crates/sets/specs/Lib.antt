pub mod Label
pub mod Wide
