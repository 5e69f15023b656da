pub mod Answers
pub mod Fields
pub mod Opening
pub mod Reals
pub mod Samples
pub mod Stored
