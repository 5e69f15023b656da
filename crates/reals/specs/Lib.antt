pub mod Cut
pub mod Form
pub mod Measure
pub mod Numeral
pub mod Numerals
pub mod Real
