pub mod Answers
pub mod Keyword
pub mod Origin
pub mod Shared
pub mod Trace
pub mod Viewing
