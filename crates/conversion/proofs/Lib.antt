pub mod Conversions
pub mod Lengths
pub mod Limits
