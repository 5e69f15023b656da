pub mod Answers
pub mod Capped
pub mod Limits
pub mod Nearest
pub mod Scale
