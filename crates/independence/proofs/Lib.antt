pub mod Arrays
pub mod Conditions
pub mod Descriptions
pub mod Files
pub mod Main
