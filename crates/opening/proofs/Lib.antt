pub mod Searches
pub mod Standing
pub mod TableLaws
pub mod Turns
