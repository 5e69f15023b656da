pub mod Columns
pub mod Most
