pub mod Digits
pub mod HighEnd
pub mod Inverting
pub mod Scaling
pub mod Sums
