pub mod Most
pub mod Render
