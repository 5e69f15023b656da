pub mod Value
pub mod Whole
