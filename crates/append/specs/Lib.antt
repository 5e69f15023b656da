pub mod Append
pub mod Most
