pub mod Field
pub mod Keyword
pub mod Origin
