pub mod Adding
pub mod HighEnd
pub mod Shifting
