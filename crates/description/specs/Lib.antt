pub mod Answers
pub mod Describe
pub mod Fields
pub mod Limits
pub mod Parts
pub mod Shape
pub mod Valid
