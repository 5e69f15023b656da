pub mod Calls
pub mod Codes
pub mod Example
pub mod Independence
pub mod Opening
