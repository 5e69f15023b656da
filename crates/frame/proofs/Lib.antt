pub mod Allowed
pub mod Codes
pub mod FileLengths
pub mod FrameChecks
pub mod PixelLengths
pub mod ShapeLaws
pub mod Sizes
