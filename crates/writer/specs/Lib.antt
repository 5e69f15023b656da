pub mod File
pub mod Render
