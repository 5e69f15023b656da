pub mod Counting
pub mod Entries
pub mod FirstEntry
pub mod Lengths
