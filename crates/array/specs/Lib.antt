pub mod Delivery
pub mod Reading
