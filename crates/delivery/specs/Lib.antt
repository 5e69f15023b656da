pub mod Cube
pub mod Flat
pub mod Tiles
