pub mod File
pub mod Limits
pub mod Shape
