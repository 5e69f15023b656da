pub mod BandLaws
pub mod Flats
pub mod Planes
pub mod StoredRows
pub mod TileCopies
pub mod TileLaws
