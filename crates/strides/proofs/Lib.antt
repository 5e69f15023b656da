pub mod Filling
pub mod RowLaws
pub mod Parts
