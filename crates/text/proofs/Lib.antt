pub mod Decimal
pub mod Put
pub mod Text
pub mod Size
