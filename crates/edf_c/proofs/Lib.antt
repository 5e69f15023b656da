pub mod Opening
pub mod Storing
pub mod Tabling
