pub mod Blocks
pub mod Moved
