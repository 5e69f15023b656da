pub mod LineLaws
pub mod Padding
pub mod Rendered
