pub mod Input
pub mod Limits
pub mod Listing
pub mod Rows
