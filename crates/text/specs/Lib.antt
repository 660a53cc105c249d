pub mod Ascii
pub mod Decimal
pub mod Line
pub mod Text
pub mod Put
