pub mod DigitLaws
pub mod NearestLaws
pub mod RoundingLaws
pub mod ScaledLaws
pub mod TableLaws
pub mod TieLaws
