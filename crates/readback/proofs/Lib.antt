pub mod Described
pub mod Keywords
pub mod Main
pub mod Origins
pub mod Pixels
pub mod Viewed
pub mod Written
