pub mod Converting
pub mod Plane
