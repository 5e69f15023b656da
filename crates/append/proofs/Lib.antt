pub mod Appending
pub mod Three
pub mod WordLaws
