pub mod Headers
pub mod Lookups
pub mod Reading
pub mod Shared
pub mod SharedSpans
pub mod SharedValues
pub mod Views
